use Rattle.mesh_report.proofs.Common.{◌≡◌, ◌-◌, ◌≤◌, ◌++◌, length, take, encode_lower, Grows}
use Rattle.mesh_report.proofs.pieces.put_hex.Given as goal

abbrev pub invariant-loop-at : goal.invariant-loop-at
invariant-loop-at l = record {
  within : l.at ≤ length l.octets;
  room : length l.line ≤ 4032;
  kept : Grows l.fn.out l.out;
  wrote : l.out ++ l.line ≡ (l.fn.out ++ l.fn.line) ++ encode_lower (take l.at l.octets);
}

abbrev pub decreases-loop-at : goal.decreases-loop-at
decreases-loop-at l = length l.octets - l.at
