use Rattle.mesh_probe.proofs.Common.{◌≡◌, ◌++◌, take, sent_by}
use Rattle.mesh_probe.proofs.frames.put_sent.Given as goal

abbrev pub invariant-loop-i : goal.invariant-loop-i
invariant-loop-i l = l.frames.items ≡ l.initial.frames.items ++ sent_by l.router (take l.i l.sent)
