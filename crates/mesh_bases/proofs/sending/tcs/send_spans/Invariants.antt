use Rattle.mesh_bases.proofs.Common.{◌≡◌, ◌+◌, ◌%◌, ◌++◌, List, length, map, drop, nat_eq, State, part_of, HasRowsOf, Frame, SendsParts}
use Rattle.mesh_bases.proofs.sending.tcs.send_spans.Given as goal

abbrev pub invariant-loop-i : goal.invariant-loop-i
invariant-loop-i l = record {
  sent : (sent : List Frame) × (l.out ≡ l.initial.out ++ sent) × ((s : State) → s.settings ≡ l.settings → HasRowsOf s l.derived → (more : List Frame) →
      SendsParts s l.validity (nat_eq (length l.spans) 1) l.sequence (drop l.i (map (part_of l.derived.rows) l.spans)) more →
      SendsParts s l.validity (nat_eq (length l.spans) 1) l.derived.sequence (map (part_of l.derived.rows) l.spans) (sent ++ more));
  number : l.sequence ≡ (l.derived.sequence + l.i) % 65536;
}
