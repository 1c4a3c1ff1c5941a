use Rattle.mesh_nhdp.proofs.Common.{◌↔◌, Contains, Addr4, TellsSymmetric, SomeBelow}
use Rattle.mesh_nhdp.proofs.two_hop_rows.count_symmetric.Given as goal

abbrev pub invariant-loop-row : goal.invariant-loop-row
invariant-loop-row l = (a : Addr4) → Contains l.addrs.items a ↔ SomeBelow l.hello.rows l.row-index (λ row. TellsSymmetric l.own l.listed row a)
