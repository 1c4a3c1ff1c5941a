use Rattle.mesh_addr.proofs.Common.{◌≡◌, ◌+◌, ◌*◌, ◌-◌, ◌≤◌, shape_of, addrs_at}
use Rattle.mesh_addr.proofs.Loops.{with_front}
use Rattle.mesh_addr.proofs.reader.addresses.Given as goal

abbrev pub invariant-loop : goal.invariant-loop
invariant-loop l = record {
  reads : with_front l.addrs (addrs_at (l.fn.count - l.counter) l.frame (shape_of l.shape) l.mid l.place l.fn.end) ≡ addrs_at l.fn.count l.frame (shape_of l.shape) l.fn.mids l.fn.at l.fn.end;
  mid : l.mid ≡ l.fn.mids + l.counter * l.size;
  within : l.place ≤ l.fn.end;
}
