use Rattle.mesh_atoms.proofs.Common.{◌≡◌, ◌+◌, ◌<◌, ◌≤◌, ◌^◌, length, drop, decimal}
use Rattle.mesh_atoms.proofs.Digits.{digits_before}
use Rattle.mesh_atoms.proofs.text.put_decimal.Given as goal

-- the digits of what is left, before those that stand
abbrev pub invariant-loop-left : goal.invariant-loop-left
invariant-loop-left l = record {
  size : length l.digits ≡ 20;
  some : 1 ≤ l.at;
  within : l.at ≤ 20;
  room : l.left < 10 ^ l.at;
  text : digits_before (44 + l.at) l.left (drop l.at l.digits) ≡ decimal l.fn.number;
}

abbrev pub decreases-loop-left : goal.decreases-loop-left
decreases-loop-left l = l.left
