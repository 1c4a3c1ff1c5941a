use Rattle.mesh_radio.proofs.Common.{map, net_of}
use Rattle.mesh_radio.proofs.RunsOff.{RunsOff}
use Rattle.mesh_radio.proofs.deferring.do_events.Given as goal

abbrev pub invariant-loop : goal.invariant-loop
invariant-loop g l = RunsOff (net_of (map g.R.DeferringRouter.state l.fn.routers.items) l.fn.scene) (map g.R.DeferringRouter.state l.routers.items) l.scene
