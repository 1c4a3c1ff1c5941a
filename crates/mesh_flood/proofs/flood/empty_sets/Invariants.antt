use Rattle.mesh_flood.proofs.Common.{◌≡◌, ℕ, [], length, base_of}
use Rattle.mesh_flood.proofs.flood.empty_sets.Given as goal

abbrev pub invariant-loop : goal.invariant-loop
invariant-loop g l = record {
  count : length l.sets.items ≡ l.counter;
  empty : (i : ℕ) → base_of l.sets.items i ≡ [];
}
