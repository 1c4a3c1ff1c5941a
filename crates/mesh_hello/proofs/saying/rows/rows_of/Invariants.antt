use Rattle.mesh_hello.proofs.Common.{◌≡◌, map, take, Contains, Addr4, HelloRow, host, IsHelloRowOf}
use Rattle.mesh_hello.proofs.saying.rows.rows_of.Given as goal

abbrev pub invariant-loop-addr : goal.invariant-loop-addr
invariant-loop-addr g l = record {
  addrs : map (λ (row : HelloRow). row.addr) l.rows ≡ map host (take l.addr-index l.addrs);
  says : (row : HelloRow) → Contains l.rows row → (a : Addr4) × IsHelloRowOf l.basis.settings.now l.basis.links.now l.basis.neighbours.now (g.O.Table.content l.basis.losts.now) l.basis.relays.now l.basis.iface l.basis.moment row a;
}
