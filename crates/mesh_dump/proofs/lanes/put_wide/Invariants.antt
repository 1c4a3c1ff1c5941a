use Rattle.mesh_dump.proofs.Common.{◌≡◌, ◌*◌, length, AreHexPairs}
use Rattle.mesh_dump.proofs.Wide.{AreLow}
use Rattle.mesh_dump.proofs.lanes.put_wide.Given as goal

abbrev pub invariant-loop-i : goal.invariant-loop-i
invariant-loop-i l = record {
  size : length l.out ≡ length l.fn.out;
  pairs : AreLow l.all → AreHexPairs l.text l.out (16 * l.i);
}
