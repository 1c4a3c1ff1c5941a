use Rattle.mesh_data.proofs.Common.{◌+◌, ℕ, List, sym, subst, map, Hop, IsOnTheWay}
use Rattle.mesh_data.proofs.Hopping.{goes}
use Rattle.mesh_data.proofs.sending.trip_of.Goals as goal

pub loop-preserved : goal.loop-preserved
loop-preserved g c =
    let states = map g.R.RouterView.state c.args.routers.now in
    let s = c.args.scenario.now in
    let hop = c.in-Hops.hop in
    let more = goes s states c.args.dest c.args.from c.loop.last c.loop.hops c.loop.metric c.loop.counter hop c.loop.invariant c.in-Hops.ensures.0 c.in-Hops.ensures.1 c.in-Hops.ensures.2 in
    subst (λ (m : ℕ). IsOnTheWay s states c.args.dest c.args.from hop.to c.push.new.self m (c.loop.counter + 1)) (sym c.with_hop-metric.ensures)
    (subst (λ (hops : List Hop). IsOnTheWay s states c.args.dest c.args.from hop.to hops (c.loop.metric + hop.metric) (c.loop.counter + 1)) (sym c.in_ok-push-in-Hops.ensures.ok) more)
