use Rattle.mesh_report.proofs.Common.{ℕ, List, ◌++◌, map, drop, Grows, fields_of_message, Wrote, IsMessagesText}
use Rattle.mesh_report.proofs.packet.put_messages.Given as goal

-- what stands, with what is still to come, is the whole
abbrev pub invariant-loop-at : goal.invariant-loop-at
invariant-loop-at l = record {
  kept : Grows l.fn.out l.out;
  text : (rest : List ℕ) → IsMessagesText (map fields_of_message (drop l.at l.messages)) (drop l.at l.spans) rest
      → Wrote (IsMessagesText (map fields_of_message l.messages) l.spans) (l.fn.out ++ l.fn.room.line) ((l.out ++ l.room.line) ++ rest);
}
