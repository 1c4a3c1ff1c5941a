use Rattle.mesh_settled.proofs.GapsLemmas.LinkLemmas.{given_is}
use Rattle.mesh_settled.proofs.gaps.links.given_by.Goals as goal

pub returns : goal.returns
returns g c =
    given_is (g.R.RouterView.state c.args.router.now) (g.R.RouterView.state c.args.other.now) c.args.i c.args.now c.args.joint c.addrs_of-addrs.result c.addrs_of.result c.settings.result.now c.settings-2.result.now
    c.is_selector-selector.result c.settings.ensures c.settings-2.ensures c.addrs_of-addrs.ensures c.addrs_of.ensures c.is_selector-selector.ensures
