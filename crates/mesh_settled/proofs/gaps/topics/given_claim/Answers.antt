use Rattle.mesh_settled.proofs.Common.{IsPeerOriginator, states}
use Rattle.mesh_settled.proofs.GapsLemmas.JointLemmas.{value_some, value_none, router_found}
use Rattle.mesh_settled.proofs.GapsLemmas.TopicLemmas.{given_side, none_given, its_origin}
use Rattle.mesh_settled.proofs.gaps.topics.given_claim.Goals as goal

pub claim_of-requires : goal.claim_of-requires
claim_of-requires g c = c.requires.site.network.sound c.in-Some.w (g.R.RouterView.state c.in-Some-router_at.other.now) (router_found g.R.RouterView.state c.router_at.ensures c.in-Some-router_at.is)

pub returns-in-Some-router_at : goal.returns-in-Some-router_at
returns-in-Some-router_at g c =
    let site = c.args.site.now in
    let all = states g.R.RouterView.state site in
    let q = g.R.RouterView.state c.in-Some-router_at.other.now in
    let p = g.R.RouterView.state site.router.now in
    let sender = value_some (IsPeerOriginator site.scenario.now all site.x c.args.at.origin.addr) c.args.at.origin.sender c.in-Some.w c.in-Some.is c.requires.origin.sender in
    let origin = its_origin site.scenario.now site.graph.now all site.moment site.x c.requires.site.network p c.args.at.topic c.args.at.origin.addr c.args.at.net c.in-Some.w q (router_found g.R.RouterView.state c.router_at.ensures c.in-Some-router_at.is) sender in
    given_side site.scenario.now site.graph.now all site.moment site.x c.requires.site.network p c.args.at.topic c.args.at.origin.addr c.args.at.net c.in-Some.w q (router_found g.R.RouterView.state c.router_at.ensures c.in-Some-router_at.is) sender c.claim_of.result (c.claim_of.ensures c.args.at.origin.addr origin)

pub returns-in-None : goal.returns-in-None
returns-in-None g c =
    let site = c.args.site.now in
    let all = states g.R.RouterView.state site in
    none_given site.scenario.now site.graph.now all site.moment site.x c.requires.site.network (g.R.RouterView.state site.router.now) c.args.at.topic c.args.at.origin.addr c.args.at.net
    (value_none (IsPeerOriginator site.scenario.now all site.x c.args.at.origin.addr) c.args.at.origin.sender c.in-None.is c.requires.origin.sender)
