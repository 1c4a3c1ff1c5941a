use Rattle.mesh_bases.proofs.Common.{◌≡◌, ◌++◌, ℕ, List, length, Some, slice_get, State, Frame, IsHelloFrame}
use Rattle.mesh_bases.proofs.sending.hellos.send_hellos.Given as goal

abbrev pub invariant-loop-iface : goal.invariant-loop-iface
invariant-loop-iface g l = record {
  sent : (sent : List Frame) × (l.out ≡ l.initial.out ++ sent) × (length sent ≡ l.iface)
      × ((s : State) → s.settings ≡ l.nhdp.settings → s.bases.neighbourhood ≡ l.nhdp.near → s.relays ≡ l.derived.relays → s.last ≡ l.derived.last → (i : ℕ) (frame : Frame) → slice_get sent i ≡ Some frame → IsHelloFrame s i frame);
}
