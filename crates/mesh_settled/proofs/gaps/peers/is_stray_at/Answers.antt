use Rattle.mesh_settled.proofs.Common.{map}
use Rattle.mesh_settled.proofs.GapsLemmas.JointLemmas.{router_found}
use Rattle.mesh_settled.proofs.GapsLemmas.PeerLemmas.{stray_at}
use Rattle.mesh_settled.proofs.gaps.peers.is_stray_at.Goals as goal

pub returns-in-Some : goal.returns-in-Some
returns-in-Some g c =
    stray_at c.args.site.now.scenario.now c.args.site.now.graph.now (map g.R.RouterView.state c.args.site.now.routers.now) c.args.site.now.moment c.args.site.now.x c.requires.network c.args.addr c.args.v c.is_joined.result c.is_address_of.result (g.R.RouterView.state c.in-Some.other.now) (c.is_joined.ensures.joined c.args.site.now.scenario.now c.requires.network.graph) c.if-is_joined.false c.if-v-site.false
    (router_found g.R.RouterView.state c.router_at.ensures c.in-Some.is) c.settings.result.now c.settings.ensures c.is_address_of.ensures
