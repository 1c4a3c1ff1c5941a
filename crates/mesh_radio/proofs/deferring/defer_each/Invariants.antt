use Rattle.mesh_radio.proofs.Common.{◌≡◌, map, AreSoundStates}
use Rattle.mesh_radio.proofs.deferring.defer_each.Given as goal

abbrev pub invariant-loop-core : goal.invariant-loop-core
invariant-loop-core g l = record {
  states : map g.R.DeferringRouter.state l.deferred.items ≡ map g.C.DeferringRouter.state l.yielded;
  sounds : AreSoundStates (map g.R.DeferringRouter.state l.deferred.items);
}
