use Rattle.mesh_settled.proofs.Common.{map}
use Rattle.mesh_settled.proofs.GapsLemmas.JointLemmas.{router_found}
use Rattle.mesh_settled.proofs.KindLemmas.{first_at}
use Rattle.mesh_settled.proofs.report.gap_at.Goals as goal

pub returns-in-Some : goal.returns-in-Some
returns-in-Some g c =
    rw c.reported.ensures (first_at c.args.scenario.now (map g.R.RouterView.state c.args.routers.now) c.args.now c.args.x (g.R.RouterView.state c.in-Some.router.now) (router_found g.R.RouterView.state c.router_at.ensures c.in-Some.is) c.first_gap.result c.first_gap.ensures)
