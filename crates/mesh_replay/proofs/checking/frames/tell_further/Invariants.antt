use Rattle.mesh_replay.proofs.Common.{map, drop, length, true, on_each, Sent, AnyState, TellsItems}
use Rattle.mesh_replay.proofs.checking.frames.tell_further.Given as goal

abbrev pub invariant-loop-iface : goal.invariant-loop-iface
invariant-loop-iface l =
    TellsItems l.case l.fn.progress l.progress l.event AnyState (λ s. map Sent (drop 1 (on_each (length l.event.settings.now.interfaces) l.frame.value)))
    (λ s. map Sent (drop l.iface (on_each (length l.event.settings.now.interfaces) l.frame.value))) true
