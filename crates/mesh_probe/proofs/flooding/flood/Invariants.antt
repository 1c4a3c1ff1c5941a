use Rattle.mesh_probe.proofs.Common.{◌*◌, ◌-◌, length, map}
use Rattle.mesh_probe.proofs.Onward.{Onward}
use Rattle.mesh_probe.proofs.flooding.flood.Given as goal

abbrev pub invariant-loop-next : goal.invariant-loop-next
invariant-loop-next g l = Onward l.scenario l.now (map g.R.RouterView.state l.fn.routers) l.fn.frames.items l.next (map g.R.RouterView.state l.routers) l.frames.items

abbrev pub decreases-loop-next : goal.decreases-loop-next
decreases-loop-next g l = length l.scenario.routers * 8 - l.next
