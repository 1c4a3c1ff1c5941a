use Rattle.mesh_settled.proofs.Common.{states, seen}
use Rattle.mesh_settled.proofs.GapsLemmas.JointLemmas.{router_found}
use Rattle.mesh_settled.proofs.GapsLemmas.TopicLemmas.{by_rows}
use Rattle.mesh_settled.proofs.gaps.topics.gap_by.Goals as goal

pub returns-in-Some : goal.returns-in-Some
returns-in-Some g c =
    let site = c.args.site.now in
    by_rows (seen g.R.RouterView.state site) (states g.R.RouterView.state site) c.args.topic c.args.w (g.R.RouterView.state c.in-Some.other.now) (router_found g.R.RouterView.state c.router_at.ensures c.in-Some.is) c.settings.result.now c.settings.ensures c.originator.result
    c.originator.ensures.is c.rows_gap.result (rw (c.rows.ensures, c.origin_of-origin.ensures.addr) at c.rows_gap.ensures)
