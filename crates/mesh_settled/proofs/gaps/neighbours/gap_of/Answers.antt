use Rattle.mesh_settled.proofs.Common.{states, seen}
use Rattle.mesh_settled.proofs.GapsLemmas.JointLemmas.{router_found}
use Rattle.mesh_settled.proofs.GapsLemmas.NeighbourLemmas.{key_of}
use Rattle.mesh_settled.proofs.gaps.neighbours.gap_of.Goals as goal

pub returns-in-Some : goal.returns-in-Some
returns-in-Some g c =
    let site = c.args.site.now in
    key_of (seen g.R.RouterView.state site) (states g.R.RouterView.state site) c.args.y (g.R.RouterView.state c.in-Some.other.now) (router_found g.R.RouterView.state c.router_at.ensures c.in-Some.is) c.settings.result.now c.settings.ensures c.originator.result
    c.originator.ensures.is c.gap_at.result c.gap_at.ensures
