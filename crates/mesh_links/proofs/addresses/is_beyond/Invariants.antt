use Rattle.mesh_links.proofs.Common.{Contains, AllWithin}
use Rattle.mesh_links.proofs.addresses.is_beyond.Given as goal

abbrev pub invariant-loop-addr : goal.invariant-loop-addr
invariant-loop-addr l = AllWithin (λ a. Contains l.others a) l.addrs 0 l.addr-index
