use Rattle.mesh_nbrs.proofs.Common.{◌≡◌, ℕ, List, Option, Some, None, inl, inr, refl, sym, ◌∙◌, false≢true, on_ok_weaker, addr_equiv, same_addr, Addr4, Neighbour, Base, SetsOnly, find, addr_eq, changed_at, sets-changed_at, LinkNote, Summary, by_summary, HasNote, IsNotesSummary, RestoresBy, AreSummariesOf, HasSummaryAt}
use Rattle.mesh_nbrs.proofs.ByAddress.{kept_noted}
use Rattle.mesh_nbrs.proofs.Owning.{owned_kept}
use Rattle.mesh_nbrs.proofs.Sets.{set_there, set_elsewhere}
use Rattle.mesh_nbrs.proofs.Summaries.{restored}
use Rattle.mesh_nbrs.proofs.neighbours.follow_parts.Goals as goal

module _ (parts : List (Addr4 × Summary)) (e : Neighbour × ℕ) (notes : List LinkNote) (are : AreSummariesOf notes parts) (old new : Option (Neighbour × ℕ)) (is : Some e ≡ old) where
  goes : (HasSummaryAt parts e.0.addrs → ⊥) → new ≡ None → RestoresBy notes old new
  goes no_part gone = rw (← is, gone) (restored notes (Some e) None None (kept_noted notes parts are (Some e) None (inr ((λ some. some no_part), refl))) refl)

  stays : (s : Summary) → HasSummaryAt parts e.0.addrs → IsNotesSummary (HasNote notes e.0.addrs) s → new ≡ Some (by_summary s e.0, s.until) → RestoresBy notes old new
  stays s has told set = rw (← is, set) (restored notes (Some e) (Some e) (Some (by_summary s e.0, s.until)) (kept_noted notes parts are (Some e) (Some e) (inl ((λ no_part. no_part has), refl))) (s, told, refl))

set : (s : Summary) (old new : Base Addr4 Neighbour) (o : Addr4) (e : Neighbour × ℕ) → Some e ≡ find addr_eq old o → new ≡ changed_at addr_eq old o (λ e. (by_summary s e.0, s.until)) → SetsOnly addr_eq old new o (Some (by_summary s e.0, s.until))
set s old new o e there is = rw is (sets-changed_at addr_equiv o (λ e. (by_summary s e.0, s.until)) old e (sym there))

pub returns-then-not-has_part-clause-one : goal.returns-then-not-has_part-clause-one
returns-then-not-has_part-clause-one g c notes are =
    let old = g.T.Table.content c.args.table.now in
    let new = g.T.Table.content c.remove_owned.new.table in
    goes c.args.parts.now.entries (c.in-Some.neighbour.now, c.in-Some.field-0-1) notes are (find addr_eq old c.args.originator) (find addr_eq new c.args.originator) c.in-Some.ensures
    (λ has. false≢true (sym c.if-not-has_part.true ∙ c.has_part.ensures.1 (rw c.as_slice-addrs.ensures has)))
    (set_there old new c.args.originator None c.remove_owned.ensures.removed addr_equiv)

pub returns-clause-one : goal.returns-clause-one
returns-clause-one g c =
    let old = g.T.Table.content c.args.table.now in
    let new = g.T.Table.content c.renew.new.table in
    let e : Neighbour × ℕ = (c.in-Some.neighbour.now, c.in-Some.field-0-1) in
    on_ok_weaker c.renew.result (λ is notes are. stays c.args.parts.now.entries e notes are (find addr_eq old c.args.originator) (find addr_eq new c.args.originator) c.in-Some.ensures c.together-summary.result
    (rw c.as_slice-addrs.ensures at (c.has_part.ensures.0 c.if-not-has_part.false)) (rw c.as_slice-addrs.ensures at (c.together-summary.ensures notes are))
    (set_there old new c.args.originator _ (set c.together-summary.result old new c.args.originator e c.in-Some.ensures is) addr_equiv)) c.renew.ensures.ok

pub returns-clause-others : goal.returns-clause-others
returns-clause-others g c =
    let old = g.T.Table.content c.args.table.now in
    let new = g.T.Table.content c.renew.new.table in
    let e : Neighbour × ℕ = (c.in-Some.neighbour.now, c.in-Some.field-0-1) in
    on_ok_weaker c.renew.result (λ is. set_elsewhere old new c.args.originator _ (set c.together-summary.result old new c.args.originator e c.in-Some.ensures is) same_addr) c.renew.ensures.ok

pub returns-clause-owned : goal.returns-clause-owned
returns-clause-owned g c = owned_kept c.args.owners.now.entries (g.T.Table.content c.args.table.now) (g.T.Table.content c.renew.new.table) c.requires.owned c.renew.ensures.addrs
