use Rattle.mesh_hello.proofs.Common.{refl}
use Rattle.mesh_hello.proofs.SayingLemmas.Message.{hello_is, rows_before, said_same}
use Rattle.mesh_hello.proofs.saying.say.make_hello.Goals as goal

pub rows_of-requires-clause-said : goal.rows_of-requires-clause-said
rows_of-requires-clause-said g c = λ a.
    rw c.as_slice.ensures ((said_same c.args.basis.now.settings.now c.args.basis.now.links.now _ c.args.basis.now.neighbours.now _ (g.O.Table.content c.args.basis.now.losts.now) c.in_ok-addrs.addrs c.table-links.ensures.content c.table-neighbours.ensures.content c.in_ok-addrs.ensures.same a).0)

pub returns : goal.returns
returns g c =
    hello_is c.args.basis.now.settings.now c.args.basis.now.links.now c.args.basis.now.neighbours.now (g.O.Table.content c.args.basis.now.losts.now) c.args.basis.now.relays.now c.args.basis.now.iface c.args.basis.now.moment
    c.in_ok-addrs.addrs _ (record {
      ascending = c.in_ok-addrs.ensures.ascending;
      same = said_same c.args.basis.now.settings.now c.args.basis.now.links.now _ c.args.basis.now.neighbours.now _ (g.O.Table.content c.args.basis.now.losts.now) c.in_ok-addrs.addrs c.table-links.ensures.content c.table-neighbours.ensures.content c.in_ok-addrs.ensures.same;
      addrs = rw (← c.as_slice.ensures) c.in_ok-rows.ensures.addrs;
      says = c.in_ok-rows.ensures.says;
      originator = (_, c.originator.ensures.is, refl);
      validity = c.time_at_least.ensures;
      interval = (_, refl, c.time_at_least-2.ensures);
      willing = refl;
    })

pub invariant_of-result : goal.invariant_of-result
invariant_of-result g c = record {
  ascending = rows_before c.in_ok-rows.rows c.in_ok-addrs.addrs (rw (← c.as_slice.ensures) c.in_ok-rows.ensures.addrs) c.in_ok-addrs.ensures.ascending;
}
