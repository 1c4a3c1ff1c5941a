use Rattle.mesh_nhdp.proofs.Common.{ℕ, ap, sym, ◌∙◌, false≢true, slice_eq-Decides, Link, LinkKey, Base, find, addr_eq, link_eq, none-some, same_some, Decides-addr}
use Rattle.mesh_nhdp.proofs.sending_link.has_link.Goals as goal

pub returns-in-Some : goal.returns-in-Some
returns-in-Some g c =
    let decides = slice_eq-Decides {E = addr_eq} Decides-addr c.as_slice.result.now c.args.addrs.now c.eq.result c.eq.ensures in
    let found = ap (λ (b : Base LinkKey Link). find link_eq b c.args.key) (sym c.table.ensures.content) ∙ sym c.in-Some.ensures in (
      λ h. ((c.in-Some.link.now, c.in-Some.field-0-1), found, sym c.as_slice.ensures ∙ decides.0 h),
      λ h. let (e, is, same) = h in decides.1 (c.as_slice.ensures ∙ (ap (λ (x : Link × ℕ). x.0.addrs) (same_some found is) ∙ same)),
    )

pub returns-in-None : goal.returns-in-None
returns-in-None g c =
    let none = ap (λ (b : Base LinkKey Link). find link_eq b c.args.key) (sym c.table.ensures.content) ∙ sym c.in-None.ensures in
    ((λ h. absurd (false≢true h)), (λ h. absurd (none-some h.0 (sym none ∙ h.1))))
