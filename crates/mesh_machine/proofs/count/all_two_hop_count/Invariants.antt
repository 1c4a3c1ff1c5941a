use Rattle.mesh_machine.proofs.Common.{◌≡◌, ◌≤◌, ◌*◌, length, map, take, sum}
use Rattle.mesh_machine.proofs.count.all_two_hop_count.Given as goal

abbrev pub invariant-loop-iface : goal.invariant-loop-iface
invariant-loop-iface g l = record {
  is : l.count ≡ sum (map length (take l.iface (g.N.Near4.near l.near).two_hops));
  few : l.count ≤ 16384 * l.iface;
}
