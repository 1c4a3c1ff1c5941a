use Rattle.mesh_nbrs.proofs.Common.{take, None, SetsOwner}
use Rattle.mesh_nbrs.proofs.owners.disown.Given as goal

abbrev pub invariant-loop-addr : goal.invariant-loop-addr
invariant-loop-addr l = SetsOwner (take l.addr-index l.addrs) None l.initial.owners.entries l.owners.entries
