use Rattle.mesh_settled.proofs.Common.{map, subst, RouterSettings, IsLeastAddress, IsLeastOf, seen}
use Rattle.mesh_settled.proofs.GapsLemmas.JointLemmas.{value_some, value_none, router_found}
use Rattle.mesh_settled.proofs.GapsLemmas.LinkLemmas.{end_is}
use Rattle.mesh_settled.proofs.GapsLemmas.TwoHopLemmas.{end_by, key_of}
use Rattle.mesh_settled.proofs.gaps.two_hops.gap_of.Goals as goal

pub gap_by-requires-clause-end : goal.gap_by-requires-clause-end
gap_by-requires-clause-end g c =
    end_by c.args.site.now.scenario.now c.args.site.now.graph.now (map g.R.RouterView.state c.args.site.now.routers.now) c.args.site.now.moment c.args.site.now.x c.requires.site.network c.args.pair.now c.requires.pair c.if-pair-site.false
    (g.R.RouterView.state c.in-Some.other.now) (router_found g.R.RouterView.state c.router_at.ensures c.in-Some.is) c.in-Some-least_address.link
    (subst (λ (r : RouterSettings). IsLeastAddress r c.args.pair.now.to_iface c.in-Some-least_address.link) c.settings.ensures
    (value_some (IsLeastAddress c.settings.result.now c.args.pair.now.to_iface) c.least_address.result c.in-Some-least_address.link c.in-Some-least_address.is c.least_address.ensures))

pub returns-in-Some-least_address : goal.returns-in-Some-least_address
returns-in-Some-least_address g c =
    let states = map g.R.RouterView.state c.args.site.now.routers.now in
    key_of (seen g.R.RouterView.state c.args.site.now) states c.args.site.now.x c.args.pair.now c.in-Some-least_address.link c.gap_by.result c.if-pair-site.false
    (value_some (IsLeastOf states c.args.pair.now.to c.args.pair.now.to_iface) c.least_address.result c.in-Some-least_address.link c.in-Some-least_address.is
    (end_is states c.args.pair.now.to c.args.pair.now.to_iface (g.R.RouterView.state c.in-Some.other.now) (router_found g.R.RouterView.state c.router_at.ensures c.in-Some.is) c.settings.result.now c.settings.ensures c.least_address.result c.least_address.ensures)) c.gap_by.ensures

pub returns-in-None-least_address : goal.returns-in-None-least_address
returns-in-None-least_address g c = λ k w.
    let states = map g.R.RouterView.state c.args.site.now.routers.now in
    absurd (value_none (IsLeastOf states c.args.pair.now.to c.args.pair.now.to_iface) c.least_address.result c.in-None-least_address.is
    (end_is states c.args.pair.now.to c.args.pair.now.to_iface (g.R.RouterView.state c.in-Some.other.now) (router_found g.R.RouterView.state c.router_at.ensures c.in-Some.is) c.settings.result.now c.settings.ensures c.least_address.result c.least_address.ensures) w.1 w.2)
