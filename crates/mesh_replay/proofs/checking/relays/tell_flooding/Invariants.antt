use Rattle.mesh_replay.proofs.Common.{HasTold}
use Rattle.mesh_replay.proofs.checking.relays.tell_flooding.Given as goal

abbrev pub invariant-loop-iface : goal.invariant-loop-iface
invariant-loop-iface g l = HasTold l.case l.fn.progress l.progress l.event.router (g.R.RouterOfTrace.state l.router) l.iface l.flooding
