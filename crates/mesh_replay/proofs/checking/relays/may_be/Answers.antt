use Rattle.mesh_replay.proofs.RelaysLemmas.Chosen.{judged}
use Rattle.mesh_replay.proofs.checking.relays.may_be.Goals as goal

pub returns : goal.returns
returns g c =
    judged (g.R.RouterOfTrace.state c.args.router.now) c.args.iface c.in_ok-graph.graph c.args.relays.now c.serves.result c.in_ok-graph.ensures.graph (c.is_ascending.ensures.0 c.if-not-is_ascending.false) c.serves.ensures
