use Rattle.mesh_bases.proofs.Common.{map, take, fields_of_message, AreReadAs}
use Rattle.mesh_bases.proofs.reading.content.typed_messages.Given as goal

abbrev pub invariant-loop-i : goal.invariant-loop-i
invariant-loop-i l = AreReadAs (take l.i (map fields_of_message l.messages)) l.typed
