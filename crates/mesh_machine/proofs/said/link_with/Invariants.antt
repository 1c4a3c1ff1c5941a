use Rattle.mesh_machine.proofs.Common.{◌≡◌, ℕ, ◌<◌, Some, slice_get, Contains, base_of}
use Rattle.mesh_machine.proofs.said.link_with.Given as goal

abbrev pub invariant-loop-place : goal.invariant-loop-place
invariant-loop-place g l = (k : ℕ) (e : _) → k < l.place → slice_get (base_of (g.N.Near4.near l.near).links l.iface) k ≡ Some e → Contains e.1.0.addrs l.addr → ⊥
