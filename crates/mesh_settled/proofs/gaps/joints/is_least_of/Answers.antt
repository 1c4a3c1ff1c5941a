use Rattle.mesh_settled.proofs.Common.{map}
use Rattle.mesh_settled.proofs.GapsLemmas.JointLemmas.{least_there, router_found}
use Rattle.mesh_settled.proofs.gaps.joints.is_least_of.Goals as goal

pub returns-in-Some : goal.returns-in-Some
returns-in-Some g c =
    least_there (map g.R.RouterView.state c.args.routers.now) c.args.to c.args.iface (g.R.RouterView.state c.in-Some.other.now) c.args.addr c.is_least.result
    (router_found g.R.RouterView.state c.router_at.ensures c.in-Some.is) c.settings.result.now c.settings.ensures c.is_least.ensures
