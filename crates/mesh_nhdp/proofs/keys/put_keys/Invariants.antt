use Rattle.mesh_nhdp.proofs.Common.{◌≡◌, ◌++◌, drop, map, key_at}
use Rattle.mesh_nhdp.proofs.keys.put_keys.Given as goal

abbrev pub invariant-loop-addr : goal.invariant-loop-addr
invariant-loop-addr l = l.keys.items ++ map key_at (drop l.addr-index l.addrs) ≡ l.fn.keys.items ++ map key_at l.addrs
