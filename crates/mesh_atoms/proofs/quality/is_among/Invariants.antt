use Rattle.mesh_atoms.proofs.Common.{◌≡◌, drop, list_any, addr_eq}
use Rattle.mesh_atoms.proofs.quality.is_among.Given as goal

abbrev pub invariant-loop-other : goal.invariant-loop-other
invariant-loop-other l = list_any (addr_eq l.addr) l.addrs ≡ list_any (addr_eq l.addr) (drop l.other-index l.addrs)
