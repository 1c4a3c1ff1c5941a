use Rattle.mesh_replay.proofs.Common.{map, drop, true, Sent, AnyState, TellsItems}
use Rattle.mesh_replay.proofs.checking.frames.tell_outbox.Given as goal

abbrev pub invariant-loop-i : goal.invariant-loop-i
invariant-loop-i l = TellsItems l.case l.fn.progress l.progress l.event AnyState (λ s. map Sent l.out) (λ s. map Sent (drop l.i l.out)) true
