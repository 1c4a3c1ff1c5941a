use Rattle.mesh_settled.proofs.Common.{seen}
use Rattle.mesh_settled.proofs.GapsLemmas.JointLemmas.{router_found}
use Rattle.mesh_settled.proofs.GapsLemmas.NeighbourLemmas.{given_here, its_originator}
use Rattle.mesh_settled.proofs.gaps.neighbours.given_at.Goals as goal

pub returns-then-own-addr : goal.returns-then-own-addr
returns-then-own-addr g c =
    given_here (seen g.R.RouterView.state c.args.site.now) c.args.addr c.args.y (g.R.RouterView.state c.in-Some.other.now) (router_found g.R.RouterView.state c.router_at.ensures c.in-Some.is) c.settings.result.now c.settings.ensures (its_originator c.settings.result.now c.originator-own.result c.args.addr c.originator-own.ensures.is c.if-own-addr.true) c.given_near.result c.given_near.ensures
