use Rattle.std.proofs.Common.{◌≡◌, length}
use Rattle.mesh_test_program.proofs.loopback.heard_within.Given as goal

abbrev pub invariant-loop : goal.invariant-loop
invariant-loop g l = record {
  attached : g.A.Air.attached l.air ≡ g.A.Air.attached l.fn.air;
  same : length l.buf ≡ length l.fn.buf;
}
