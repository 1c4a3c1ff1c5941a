use Rattle.mesh_nbrs.proofs.Common.{◌≡◌, Bool, true, cond, List, Contains, ap, sym, ◌∙◌, subst, is_some, ◌↔◌, ◌&&◌, IfOk-weaker, Addr4, find, addr_eq, IsSpokenOf}
use Rattle.mesh_nbrs.proofs.Spoken.{spoken}
use Rattle.mesh_nbrs.proofs.owners.all_spoken_of.Goals as goal

pub returns : goal.returns
returns g c =
    let base = g.T.Table.content c.args.table.now in
    IfOk-weaker c.from_slice.result (λ v. v.items ≡ c.as_slice.result.now) (λ v. (o : Addr4) → Contains v.items o ↔ IsSpokenOf base c.args.originator c.args.listed.now o)
    (λ v items o.
    subst (λ (l : List Addr4). Contains l o ↔ IsSpokenOf base c.args.originator c.args.listed.now o) (sym (items ∙ c.as_slice.ensures.keys))
    (spoken c.args.owners.now.entries base c.args.originator c.args.listed.now c.add_standing.new.found.keys c.requires
    (λ q. c.in_ok-add_standing.ensures q ∙ ap (λ (b : Bool). cond (is_some (find addr_eq base c.args.originator) && addr_eq c.args.originator q) true b) (c.in_ok-found.ensures q)) o))
    c.from_slice.ensures.items
