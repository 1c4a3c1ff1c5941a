use Rattle.mesh_report.proofs.Common.{◌≡◌, ◌++◌, take, flat_map, Grows, address_line}
use Rattle.mesh_report.proofs.packet.put_addresses.Given as goal

abbrev pub invariant-loop-addr : goal.invariant-loop-addr
invariant-loop-addr l = record {
  wrote : l.out ++ l.line ≡ (l.initial.out ++ l.initial.line) ++ flat_map (address_line l.width) (take l.addr-index l.addrs);
  kept : Grows l.initial.out l.out;
}
