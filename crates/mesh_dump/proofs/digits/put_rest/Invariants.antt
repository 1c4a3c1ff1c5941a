use Rattle.mesh_dump.proofs.Common.{◌≡◌, ◌<◌, length, AreHexPairs}
use Rattle.mesh_dump.proofs.digits.put_rest.Given as goal

abbrev pub invariant-loop-i : goal.invariant-loop-i
invariant-loop-i l = record {
  size : length l.out ≡ length l.fn.out;
  pairs : l.all < 256 → AreHexPairs l.text l.fn.out l.fn.from → AreHexPairs l.text l.out l.i;
}
