use Rattle.mesh_relay.proofs.Common.{◌≡◌, ℕ, length, drop, is_within, tells}
use Rattle.mesh_relay.proofs.soles.note_soles_on.Given as goal

abbrev pub invariant-loop-way : goal.invariant-loop-way
invariant-loop-way l = record {
  lengths : length l.soles ≡ length l.taken;
  within : is_within l.pass.takers (length l.taken);
  noted : (k : ℕ) → tells l.taken l.soles l.pass k (drop l.way-index l.ways) ≡ tells l.taken l.fn.soles l.fn.begun k l.ways;
}
