use Rattle.mesh_texts.proofs.Common.{◌≡◌, ◌-◌, ◌≤◌, ◌++◌, length, take, encode_lower}
use Rattle.mesh_texts.proofs.lines.pieces.put_hex.Given as goal

abbrev pub invariant-loop-at : goal.invariant-loop-at
invariant-loop-at l = record {
  within : l.at ≤ length l.octets;
  wrote : l.out ≡ l.fn.out ++ encode_lower (take l.at l.octets);
}

abbrev pub decreases-loop-at : goal.decreases-loop-at
decreases-loop-at l = length l.octets - l.at
