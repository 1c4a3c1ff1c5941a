use Rattle.mesh_nhdp.proofs.Common.{◌↔◌, Contains, Addr4, IsWanted, SomeBelow}
use Rattle.mesh_nhdp.proofs.near_addresses.wanted_addresses.Given as goal

abbrev pub invariant-loop-place : goal.invariant-loop-place
invariant-loop-place g l = (a : Addr4) → Contains l.addrs.items a ↔ SomeBelow (g.T.Table.content l.table) l.place (λ e. IsWanted l.wanted e.1.0 × Contains e.1.0.addrs a)
