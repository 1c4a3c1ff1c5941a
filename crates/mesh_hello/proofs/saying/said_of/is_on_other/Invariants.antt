use Rattle.mesh_hello.proofs.Common.{ℕ, ◌<◌, ◌≢◌, HasAddressOn}
use Rattle.mesh_hello.proofs.saying.said_of.is_on_other.Given as goal

abbrev pub invariant-loop-place : goal.invariant-loop-place
invariant-loop-place l = (k : ℕ) → k < l.place → k ≢ l.iface → HasAddressOn l.settings k l.addr → ⊥
