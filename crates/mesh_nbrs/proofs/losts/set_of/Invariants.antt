use Rattle.mesh_nbrs.proofs.Common.{◌≡◌, take, list_any, contains, addr_eq}
use Rattle.mesh_nbrs.proofs.losts.set_of.Given as goal

abbrev pub invariant-loop-addr : goal.invariant-loop-addr
invariant-loop-addr l = (a : _) → contains addr_eq l.set a ≡ list_any (λ x. addr_eq x a) (take l.addr-index l.addrs)
