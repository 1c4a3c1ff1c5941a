use Rattle.mesh_replay.proofs.Common.{map, drop, true, Lost, AnyState, TellsItems}
use Rattle.mesh_replay.proofs.checking.frames.tell_losses.Given as goal

abbrev pub invariant-loop-arc : goal.invariant-loop-arc
invariant-loop-arc l = TellsItems l.case l.fn.progress l.progress l.event AnyState (λ s. map Lost l.lost) (λ s. map Lost (drop l.arc-index l.lost)) true
