use Rattle.mesh_bases.proofs.Common.{◌≡◌, ℕ, List, length, Some, slice_get, Addr4, NeighbourGraph, AreRelaysOf, IsFloodingGraph, SoundNeighbourhood, State}
use Rattle.mesh_bases.proofs.relays.relays_of.Given as goal

abbrev pub invariant-loop-iface : goal.invariant-loop-iface
invariant-loop-iface g l = record {
  count : length l.flooding ≡ l.iface;
  chosen : (s : State) (now : ℕ) → s.settings ≡ l.settings → s.bases.neighbourhood ≡ g.N.Near4.near l.near → SoundNeighbourhood l.settings now (g.N.Near4.near l.near) → (i : ℕ) (relays : List Addr4) → slice_get l.flooding i ≡ Some relays →
      (graph : NeighbourGraph) × IsFloodingGraph s now i graph × AreRelaysOf graph relays;
}
