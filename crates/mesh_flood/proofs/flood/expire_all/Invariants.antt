use Rattle.mesh_flood.proofs.Common.{◌≡◌, ◌<◌, ◌≤◌, ℕ, length, base_of, Expires, HasDistinctKeys, flood_eq}
use Rattle.mesh_flood.proofs.flood.expire_all.Given as goal

abbrev pub invariant-loop-i : goal.invariant-loop-i
invariant-loop-i g l = record {
  count : length l.sets.items ≡ length l.initial.sets.items;
  kept : (k : ℕ) → k < l.i → Expires flood_eq l.now (base_of l.initial.sets.items k) (base_of l.sets.items k);
  distinct : (k : ℕ) → k < l.i → HasDistinctKeys flood_eq (base_of l.sets.items k);
  fewer : (k : ℕ) → length (base_of l.sets.items k) ≤ length (base_of l.initial.sets.items k);
  others : (k : ℕ) → l.i ≤ k → base_of l.sets.items k ≡ base_of l.initial.sets.items k;
}
