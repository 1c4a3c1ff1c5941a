use Rattle.mesh_report.proofs.Common.{◌≡◌, length, AreDigits}
use Rattle.mesh_report.proofs.hexadecimal.lay_rest.Given as goal

abbrev pub invariant-loop-i : goal.invariant-loop-i
invariant-loop-i l = record {
  size : length l.out ≡ length l.fn.out;
  laid : AreDigits l.octets l.fn.out l.fn.from → AreDigits l.octets l.out l.i;
}
