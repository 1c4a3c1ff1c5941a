use Rattle.mesh_settled.proofs.Common.{map}
use Rattle.mesh_settled.proofs.GapsLemmas.JointLemmas.{router_found}
use Rattle.mesh_settled.proofs.GapsLemmas.LinkLemmas.{end_is}
use Rattle.mesh_settled.proofs.gaps.links.end_of.Goals as goal

pub returns-in-Some : goal.returns-in-Some
returns-in-Some g c =
    end_is (map g.R.RouterView.state c.args.routers.now) c.args.pair.now.to c.args.pair.now.to_iface (g.R.RouterView.state c.in-Some.other.now)
    (router_found g.R.RouterView.state c.router_at.ensures c.in-Some.is) c.settings.result.now c.settings.ensures c.least_address.result c.least_address.ensures
