use Rattle.mesh_probe.proofs.Common.{map}
use Rattle.mesh_probe.proofs.Reaching.{done_reaches, done_once}
use Rattle.mesh_probe.proofs.probing.probe.Goals as goal

pub returns-clause-reaches : goal.returns-clause-reaches
returns-clause-reaches g c =
    let state = g.R.RouterView.state in
    let s = c.args.scenario.now in
    done_reaches s (map state c.args.routers.now) (map state c.probe_from.new.routers) s.end c.args.origin c.floods_reach.ensures.reaches c.probe_from.result
    c.probe_from.ensures.number c.probe_from.ensures.flood c.probe_from.ensures.reached

pub returns-clause-once : goal.returns-clause-once
returns-clause-once g c =
    let state = g.R.RouterView.state in
    let s = c.args.scenario.now in
    done_once s (map state c.args.routers.now) (map state c.probe_from.new.routers) s.end c.args.origin c.floods_reach.ensures.once c.requires.routers c.probe_from.result c.probe_from.ensures.flood
