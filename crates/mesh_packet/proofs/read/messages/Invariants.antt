use Rattle.mesh_packet.proofs.Common.{◌≤◌, map, fields_of_message}
use Rattle.mesh_packet.proofs.MessageRun.{SoFar}
use Rattle.mesh_packet.proofs.read.messages.Given as goal

abbrev pub invariant-loop : goal.invariant-loop
invariant-loop l = record {
  so_far : SoFar l.frame l.fn.at l.fn.end l.counter (map fields_of_message l.messages) l.spans l.place;
  within : l.place ≤ l.fn.end;
}
