use Rattle.mesh_radio.proofs.Common.{map, AreOpeningUpTo}
use Rattle.mesh_radio.proofs.routers.routers_of.Given as goal

abbrev pub invariant-loop-one : goal.invariant-loop-one
invariant-loop-one g l = AreOpeningUpTo l.settings l.one-index (map g.R.DeferringRouter.state l.routers.items)
