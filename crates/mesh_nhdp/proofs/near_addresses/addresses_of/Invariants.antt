use Rattle.mesh_nhdp.proofs.Common.{◌↔◌, Contains, Addr4, IsWantedAt, SomeBelow}
use Rattle.mesh_nhdp.proofs.near_addresses.addresses_of.Given as goal

abbrev pub invariant-loop-originator : goal.invariant-loop-originator
invariant-loop-originator g l = (a : Addr4) → Contains l.addrs.items a ↔ SomeBelow l.originators l.originator-index (λ o. IsWantedAt (g.T.Table.content l.table) l.wanted o a)
