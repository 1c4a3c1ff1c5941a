use Rattle.mesh_hello.proofs.Common.{◌↔◌, Contains, Addr4, IsLocalAddress}
use Rattle.mesh_hello.proofs.Collect.{SomeBelow}
use Rattle.mesh_hello.proofs.told.sender.local_addresses.Given as goal

abbrev pub invariant-loop-row : goal.invariant-loop-row
invariant-loop-row l = (a : Addr4) → Contains l.addrs.items a ↔ SomeBelow l.hello.rows l.row-index (λ row. IsLocalAddress row l.local a)
