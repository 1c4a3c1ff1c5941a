use Rattle.mesh_settled.proofs.Common.{map, option_map, TwoHopKey, IsSide, two_hop_fields, look, IsHeldTwoHop, IsPresentTwoHop, key_by}
use Rattle.mesh_settled.proofs.GapsLemmas.Sides.{gap_found}
use Rattle.mesh_settled.proofs.GapsLemmas.TwoHopLemmas.{held_two_hop, given_two_hop}
use Rattle.mesh_settled.proofs.gaps.two_hops.gap_at.Goals as goal

pub said-requires-clause-sound : goal.said-requires-clause-sound
said-requires-clause-sound g c = c.requires.site.network.sound c.args.end.now.y (g.R.RouterView.state c.args.end.now.other.now) c.requires.end.at

pub said-requires-clause-last : goal.said-requires-clause-last
said-requires-clause-last g c = c.requires.site.network.moment c.args.end.now.y (g.R.RouterView.state c.args.end.now.other.now) c.requires.end.at

pub returns : goal.returns
returns g c =
    let p = g.R.RouterView.state c.args.site.now.router.now in
    let key : TwoHopKey = record { link = record { addr = c.args.end.now.link }; addr = c.args.addr } in
    let q = g.R.RouterView.state c.args.end.now.other.now in
    let l = look c.args.site.now.scenario.now (map g.R.RouterView.state c.args.site.now.routers.now) c.args.site.now.moment c.args.site.now.x p in
    let held : IsSide (IsHeldTwoHop p c.args.end.now.i key) (option_map two_hop_fields c.found_tuple-held.result) =
    rw (c.found_tuple-held.ensures, c.two_hop_of.ensures) (held_two_hop p c.args.end.now.i key ((c.requires.site.network.sound c.args.site.now.x p c.requires.site.at).neighbourhood.two_hops c.args.end.now.i).distinct) in
    let given : IsSide (IsPresentTwoHop l c.args.end.now.i key) (option_map two_hop_fields c.if_far-given.result) =
    rw c.if_far-given.ensures (given_two_hop c.args.site.now.scenario.now c.args.site.now.graph.now (map g.R.RouterView.state c.args.site.now.routers.now) c.args.site.now.moment c.args.site.now.x p c.requires.site.network c.args.end.now.i c.args.end.now.y c.args.end.now.j q key
    c.requires.end c.said.result c.said.ensures c.is_address_of-mine.result c.is_address_of-theirs.result (rw c.settings.ensures at c.is_address_of-mine.ensures) (rw c.settings-2.ensures at c.is_address_of-theirs.ensures)) in
    rw (c.found_at.ensures, c.compared-values.ensures) (gap_found l (key_by c.args.end.now.i c.args.end.now.link c.args.addr) (λ e. e) two_hop_fields two_hop_fields c.found_tuple-held.result c.if_far-given.result
    c.difference_of-difference.result c.is_some.result c.is_some-2.result c.is_some.ensures c.is_some-2.ensures held given c.difference_of-difference.ensures)
