use Rattle.mesh_bases.proofs.Common.{[], Adds, Given, IsSelectorBy}
use Rattle.mesh_bases.proofs.advertise.selectors_of.Given as goal

abbrev pub invariant-loop-place : goal.invariant-loop-place
invariant-loop-place g l = Adds (Given (λ e. IsSelectorBy e.0 e.1.0) (g.N.Near4.near l.near).neighbours l.place) [] l.selectors.items
