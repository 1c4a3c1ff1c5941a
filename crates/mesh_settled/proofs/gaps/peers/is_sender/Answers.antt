use Rattle.mesh_settled.proofs.Common.{map}
use Rattle.mesh_settled.proofs.GapsLemmas.PeerLemmas.{is_sender}
use Rattle.mesh_settled.proofs.GapsLemmas.JointLemmas.{router_found}
use Rattle.mesh_settled.proofs.gaps.peers.is_sender.Goals as goal

pub returns-in-Some : goal.returns-in-Some
returns-in-Some g c =
    is_sender c.args.site.now.scenario.now c.args.site.now.graph.now (map g.R.RouterView.state c.args.site.now.routers.now) c.args.site.now.moment c.args.site.now.x c.requires.network c.args.from c.originator.result c.args.w c.is_joined.result (g.R.RouterView.state c.in-Some.other.now) (c.is_joined.ensures.joined c.args.site.now.scenario.now c.requires.network.graph) c.if-not-is_joined.false
    (router_found g.R.RouterView.state c.router_at.ensures c.in-Some.is) c.settings.result.now c.settings.ensures c.originator.ensures.is
