use Rattle.mesh_links.proofs.Tied.{owns_one_more}
use Rattle.mesh_links.proofs.owners.own_all.Goals as goal

pub loop-addr-preserved : goal.loop-addr-preserved
loop-addr-preserved c =
    let (done, more) = owns_one_more c.args.owners.now.entries c.loop-addr.owners.entries c.insert.new.self.entries c.args.addrs.now c.loop-addr.addr-index _ c.args.key c.loop-addr-test.true c.in_ok-insert.ensures.updates.0 c.loop-addr.invariant.done c.loop-addr.invariant.more in
    record { done = done; more = more }
