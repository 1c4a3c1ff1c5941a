use Rattle.mesh_links.proofs.Common.{◌≡◌, Some, AllWithin, owner_of, OwnsMore}
use Rattle.mesh_links.proofs.owners.own_all.Given as goal

abbrev pub invariant-loop-addr : goal.invariant-loop-addr
invariant-loop-addr l = record {
  done : AllWithin (λ a. owner_of l.owners.entries a ≡ Some l.key) l.addrs 0 l.addr-index;
  more : OwnsMore l.initial.owners.entries l.owners.entries l.addrs l.key;
}
