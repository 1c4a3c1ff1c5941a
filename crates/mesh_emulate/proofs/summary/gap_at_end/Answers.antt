use Rattle.mesh_emulate.proofs.Common.{map, gap_is}
use Rattle.mesh_emulate.proofs.summary.gap_at_end.Goals as goal

pub returns : goal.returns
returns g c =
    gap_is c.args.scenario.now (map g.R.RouterView.state c.args.routers.now) c.args.scenario.now.end c.settled.result c.settled.ensures.none
    c.settled.ensures.first
