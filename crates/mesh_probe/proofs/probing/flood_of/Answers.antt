use Rattle.mesh_probe.proofs.Common.{◌<◌, length, map, rules, sym, subst, slice_index_or, All, State, Flood, IsOfInterface, SendsOnceFrom}
use Rattle.mesh_probe.proofs.Beginning.{can_hear, first_are, once, owned, prober, probe_flood, router_at}
use Rattle.mesh_probe.proofs.Turns.{within}
use Rattle.mesh_probe.proofs.probing.flood_of.Goals as goal

pub bounds-routers-origin : goal.bounds-routers-origin
bounds-routers-origin g c =
    let s = c.args.scenario.now in
    let (p, at) = router_at s (map g.R.RouterView.state c.args.routers.now) c.args.origin c.requires.routers c.requires.origin in
    within g.R.RouterView.state c.args.routers.now c.args.origin p at

pub offset_bounds-routers-origin : goal.offset_bounds-routers-origin
offset_bounds-routers-origin g c = let l : c.args.origin < length c.args.routers.now = bounds-routers-origin g c in search rules

pub probe_frame-requires : goal.probe_frame-requires
probe_frame-requires g c =
    let state = g.R.RouterView.state in
    let at = prober state c.args.routers.now c.args.scenario.now c.args.origin c.requires.routers c.requires.origin c.index-routers-origin.result in
    c.requires.routers.sound c.args.origin (state (slice_index_or c.args.routers.now c.args.origin c.index-routers-origin.result)) at

pub flood-requires-clause-routers : goal.flood-requires-clause-routers
flood-requires-clause-routers g c = can_hear c.args.scenario.now (map g.R.RouterView.state c.args.routers.now) c.args.origin c.requires.routers

pub flood-requires-clause-frames : goal.flood-requires-clause-frames
flood-requires-clause-frames g c =
    let state = g.R.RouterView.state in
    let s = c.args.scenario.now in
    let at = prober state c.args.routers.now s c.args.origin c.requires.routers c.requires.origin c.index-routers-origin.result in
    let p : State = state (slice_index_or c.args.routers.now c.args.origin c.index-routers-origin.result) in
    let are = first_are c.args.origin p c.in_ok-frames.frames.items c.len-count.result c.as_slice.result.now c.in_ok-octets.octets c.settings.result.now c.in_ok-frames.ensures c.len-count.ensures c.settings.ensures c.as_slice.ensures in
    subst (λ ts. All (IsOfInterface s) ts) (sym are) (owned s (map state c.args.routers.now) c.args.origin c.requires.routers p at c.args.number c.in_ok-octets.octets c.in_ok-octets.ensures)

pub flood-requires-clause-once : goal.flood-requires-clause-once
flood-requires-clause-once g c =
    let state = g.R.RouterView.state in
    let s = c.args.scenario.now in
    let states = map state c.args.routers.now in
    let at = prober state c.args.routers.now s c.args.origin c.requires.routers c.requires.origin c.index-routers-origin.result in
    let p : State = state (slice_index_or c.args.routers.now c.args.origin c.index-routers-origin.result) in
    let are = first_are c.args.origin p c.in_ok-frames.frames.items c.len-count.result c.as_slice.result.now c.in_ok-octets.octets c.settings.result.now c.in_ok-frames.ensures c.len-count.ensures c.settings.ensures c.as_slice.ensures in
    subst (λ ts. SendsOnceFrom s s.end states ts) (sym are) (once s states c.args.origin c.requires.routers p at c.args.number c.in_ok-octets.octets c.in_ok-octets.ensures)

pub returns : goal.returns
returns g c =
    let state = g.R.RouterView.state in
    let s = c.args.scenario.now in
    let states = map state c.args.routers.now in
    let new = map state c.flood.new.routers in
    let heard = c.flood.new.frames.items in
    let at = prober state c.args.routers.now s c.args.origin c.requires.routers c.requires.origin c.index-routers-origin.result in
    let p : State = state (slice_index_or c.args.routers.now c.args.origin c.index-routers-origin.result) in
    let are = first_are c.args.origin p c.in_ok-frames.frames.items c.len-count.result c.as_slice.result.now c.in_ok-octets.octets c.settings.result.now c.in_ok-frames.ensures c.len-count.ensures c.settings.ensures c.as_slice.ensures in
    probe_flood s states c.args.origin c.requires.routers p at c.args.number c.in_ok-octets.octets c.in_ok-octets.ensures new heard (subst (λ ts. Flood s s.end states ts new heard) are c.in_ok-flood.ensures)
