use Rattle.mesh_atoms.proofs.Common.{◌≡◌, ◌*◌, ◌++◌, ℕ, List, drop, length, IsTimeValue, IsValidity}
use Rattle.mesh_atoms.proofs.settings.RouterSettings.validity.Given as goal

-- what stands is the front of such a value, whatever follows it
abbrev pub invariant-loop-near : goal.invariant-loop-near
invariant-loop-near l = record {
  size : length l.value ≡ 2 * l.near-index;
  sent : (rest : List ℕ) → IsTimeValue rest → IsTimeValue (l.value ++ rest);
  value : (rest : List ℕ) → IsValidity l.self.times.topology_hold (drop l.near-index l.near-items) rest
      → IsValidity l.self.times.topology_hold l.near-items (l.value ++ rest);
}
