use Rattle.mesh_settled.proofs.Common.{map, IsJointWith}
use Rattle.mesh_settled.proofs.GapsLemmas.JointLemmas.{value_some, value_none, router_found}
use Rattle.mesh_settled.proofs.GapsLemmas.LinkLemmas.{given_side, no_joint}
use Rattle.mesh_settled.proofs.gaps.links.given_link.Goals as goal

pub given_by-requires-clause-sound : goal.given_by-requires-clause-sound
given_by-requires-clause-sound g c = c.requires.network.sound c.in-Some.joint.to (g.R.RouterView.state c.in-Some-router_at.other.now) (router_found g.R.RouterView.state c.router_at.ensures c.in-Some-router_at.is)

pub given_by-requires-clause-moment : goal.given_by-requires-clause-moment
given_by-requires-clause-moment g c = c.requires.network.moment c.in-Some.joint.to (g.R.RouterView.state c.in-Some-router_at.other.now) (router_found g.R.RouterView.state c.router_at.ensures c.in-Some-router_at.is)

pub returns-in-Some-router_at : goal.returns-in-Some-router_at
returns-in-Some-router_at g c =
    given_side c.args.site.now.scenario.now c.args.site.now.graph.now (map g.R.RouterView.state c.args.site.now.routers.now) c.args.site.now.moment c.args.site.now.x (g.R.RouterView.state c.args.site.now.router.now) c.requires.network c.args.i c.args.key c.in-Some.joint
    (value_some (IsJointWith c.args.site.now.scenario.now (map g.R.RouterView.state c.args.site.now.routers.now) c.args.site.now.x c.args.i c.args.key.addr) c.joint_with.result c.in-Some.joint c.in-Some.is c.joint_with.ensures)
    (g.R.RouterView.state c.in-Some-router_at.other.now) (router_found g.R.RouterView.state c.router_at.ensures c.in-Some-router_at.is) c.given_by.result c.given_by.ensures

pub returns-in-None : goal.returns-in-None
returns-in-None g c =
    no_joint c.args.site.now.scenario.now c.args.site.now.graph.now (map g.R.RouterView.state c.args.site.now.routers.now) c.args.site.now.moment c.args.site.now.x (g.R.RouterView.state c.args.site.now.router.now) c.requires.network c.args.i c.args.key
    (value_none (IsJointWith c.args.site.now.scenario.now (map g.R.RouterView.state c.args.site.now.routers.now) c.args.site.now.x c.args.i c.args.key.addr) c.joint_with.result c.in-None.is c.joint_with.ensures)
