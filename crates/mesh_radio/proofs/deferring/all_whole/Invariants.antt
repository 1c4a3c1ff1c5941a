use Rattle.mesh_radio.proofs.Common.{◌≡◌, map}
use Rattle.mesh_radio.proofs.deferring.all_whole.Given as goal

abbrev pub invariant-loop-router : goal.invariant-loop-router
invariant-loop-router g l = map g.C.DeferringRouter.state l.wholes.items ≡ map g.R.DeferringRouter.state l.yielded
