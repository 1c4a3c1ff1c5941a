use Rattle.mesh_emulate.proofs.Common.{◌≡◌, length, AreStated}
use Rattle.mesh_emulate.proofs.making.stated.stated_routers.Given as goal

abbrev pub invariant-loop-i : goal.invariant-loop-i
invariant-loop-i l = record {
  stated : AreStated 0 l.routers;
  count : length l.routers ≡ l.i;
}
