use Rattle.mesh_nbrs.proofs.Common.{◌≡◌, take, list_any, contains, addr_eq, owner_of, is_owner}
use Rattle.mesh_nbrs.proofs.owners.owners_of.Given as goal

abbrev pub invariant-loop-addr : goal.invariant-loop-addr
invariant-loop-addr l = (o : _) → contains addr_eq l.found o ≡ list_any (λ x. is_owner (owner_of l.owners.entries x) o) (take l.addr-index l.addrs)
