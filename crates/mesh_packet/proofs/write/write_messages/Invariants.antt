use Rattle.mesh_packet.proofs.Common.{◌≤◌, length, map, take, SpellsItems, fields_of_message, LeastMessage, Wrote}
use Rattle.mesh_packet.proofs.write.write_messages.Given as goal

abbrev pub invariant-loop-message : goal.invariant-loop-message
invariant-loop-message l = record {
  wrote : Wrote (SpellsItems LeastMessage (map fields_of_message (take l.message-index l.messages))) l.initial.out l.out;
  room : length l.out ≤ 65507;
}
