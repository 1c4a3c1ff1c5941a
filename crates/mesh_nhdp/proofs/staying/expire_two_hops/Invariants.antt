use Rattle.mesh_nhdp.proofs.Common.{◌≡◌, ℕ, ◌<◌, ◌≤◌, length, true, false, HasDistinctKeys, Expires, base_of, two_hop_eq}
use Rattle.mesh_nhdp.proofs.staying.expire_two_hops.Given as goal

abbrev pub invariant-loop-i : goal.invariant-loop-i
invariant-loop-i g l = record {
  lengths : length l.sets ≡ length l.initial.sets;
  done : (k : ℕ) → k < l.i → Expires two_hop_eq l.now (base_of l.initial.sets k) (base_of l.sets k);
  distinct : (k : ℕ) → k < l.i → HasDistinctKeys two_hop_eq (base_of l.sets k);
  left : (k : ℕ) → l.i ≤ k → base_of l.sets k ≡ base_of l.initial.sets k;
  same : l.same ≡ true → l.sets ≡ l.initial.sets;
  changed : l.same ≡ false → (k : ℕ) × (k < l.i) × (length (base_of l.sets k) < length (base_of l.initial.sets k));
}
