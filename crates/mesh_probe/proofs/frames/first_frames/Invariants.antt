use Rattle.mesh_probe.proofs.Common.{◌≡◌, on_each, sent_by}
use Rattle.mesh_probe.proofs.frames.first_frames.Given as goal

abbrev pub invariant-loop-iface : goal.invariant-loop-iface
invariant-loop-iface l = l.frames.items ≡ sent_by l.router (on_each l.iface l.octets)
