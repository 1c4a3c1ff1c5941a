use Rattle.mesh_nbrs.proofs.Common.{◌∙◌, sym, false≢true, lookup_from_place, addr_equiv}
use Rattle.mesh_nbrs.proofs.ends.next_in.Goals as goal

pub returns-then-not-has_part-clause-some : goal.returns-then-not-has_part-clause-some
returns-then-not-has_part-clause-some g c = (
  (c.in-Some.neighbour.now, c.in-Some.field-0-2),
  lookup_from_place addr_equiv (g.T.Table.content c.args.table.now) c.loop-place.place c.in-Some.originator.now (c.in-Some.neighbour.now, c.in-Some.field-0-2) c.requires (sym c.in-Some.ensures),
  λ has. false≢true (sym c.if-not-has_part.true ∙ c.has_part.ensures.1 (rw c.as_slice.ensures has)),
)
