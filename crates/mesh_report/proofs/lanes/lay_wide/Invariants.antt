use Rattle.mesh_report.proofs.Common.{◌≡◌, ◌*◌, length, AreDigits}
use Rattle.mesh_report.proofs.lanes.lay_wide.Given as goal

abbrev pub invariant-loop-i : goal.invariant-loop-i
invariant-loop-i l = record {
  size : length l.out ≡ length l.fn.out;
  laid : AreDigits l.octets l.out (16 * l.i);
}
