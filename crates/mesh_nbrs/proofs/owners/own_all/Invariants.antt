use Rattle.mesh_nbrs.proofs.Common.{take, Some, SetsOwner}
use Rattle.mesh_nbrs.proofs.owners.own_all.Given as goal

abbrev pub invariant-loop-addr : goal.invariant-loop-addr
invariant-loop-addr l = SetsOwner (take l.addr-index l.addrs) (Some l.originator) l.initial.owners.entries l.owners.entries
