use Rattle.mesh_machine.proofs.Common.{◌≡◌, ℕ, ◌<◌, Some, slice_get, Contains, IsTrue}
use Rattle.mesh_machine.proofs.said.neighbour_with.Given as goal

abbrev pub invariant-loop-place : goal.invariant-loop-place
invariant-loop-place g l = (k : ℕ) (e : _) → k < l.place → slice_get (g.N.Near4.near l.near).neighbours k ≡ Some e → IsTrue e.1.0.symmetric → Contains e.1.0.addrs l.addr → ⊥
