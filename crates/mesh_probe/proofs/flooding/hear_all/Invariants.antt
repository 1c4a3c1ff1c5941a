use Rattle.mesh_probe.proofs.Common.{map}
use Rattle.mesh_probe.proofs.Turns.{Turning}
use Rattle.mesh_probe.proofs.flooding.hear_all.Given as goal

abbrev pub invariant-loop-arc : goal.invariant-loop-arc
invariant-loop-arc g l =
    Turning l.scenario l.now l.sender l.frame.frame.bytes l.frame.router l.frame.frame.iface l.arc-index (map g.R.RouterView.state l.fn.routers)
    (map g.R.RouterView.state l.routers) l.sent.items
