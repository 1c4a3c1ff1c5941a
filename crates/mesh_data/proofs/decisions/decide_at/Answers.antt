use Rattle.mesh_data.proofs.Common.{◌<◌, length, arith, subst, List, map, Attached4, IsDecisionBy}
use Rattle.mesh_data.proofs.Deciding.{router_at, state_within, state_at, not_of, decision_at}
use Rattle.mesh_data.proofs.decisions.decide_at.Goals as goal

pub returns-then-is_own : goal.returns-then-is_own
returns-then-is_own g c = (
  c.index-as_slice-x.result,
  router_at c.as_slice.result.now c.args.scenario.now.routers c.args.x c.index-as_slice-x.result c.as_slice.ensures c.requires.within c.index-as_slice-x.is,
  c.is_own.ensures.0 c.if-is_own.true,
)

pub bounds-routers-x : goal.bounds-routers-x
bounds-routers-x g c =
    let r = router_at c.as_slice.result.now c.args.scenario.now.routers c.args.x c.index-as_slice-x.result c.as_slice.ensures c.requires.within c.index-as_slice-x.is in
    state_within g.R.RouterView.state c.args.scenario.now c.args.routers.now c.args.x c.index-as_slice-x.result c.requires.states r

pub offset_bounds-routers-x : goal.offset_bounds-routers-x
offset_bounds-routers-x g c = let l : c.args.x < length c.args.routers.now = bounds-routers-x g c in omega arith

pub returns : goal.returns
returns g c =
    let r = router_at c.as_slice.result.now c.args.scenario.now.routers c.args.x c.index-as_slice-x.result c.as_slice.ensures c.requires.within c.index-as_slice-x.is in
    let l = state_within g.R.RouterView.state c.args.scenario.now c.args.routers.now c.args.x c.index-as_slice-x.result c.requires.states r in
    let states = map g.R.RouterView.state c.args.routers.now in
    let p = g.R.RouterView.state c.index-routers-x.result in
    let s = c.args.scenario.now in
    decision_at s states c.args.dest c.args.x c.index-as_slice-x.result r p c.decide_by.result
    (state_at g.R.RouterView.state c.args.routers.now c.args.x c.index-routers-x.result l c.index-routers-x.is)
    (not_of s states c.args.dest c.args.x c.index-as_slice-x.result r c.is_own.result c.is_own.ensures c.if-is_own.false)
    (subst (λ (own : List Attached4). IsDecisionBy p.routes own c.args.dest c.decide_by.result) c.as_slice-2.ensures c.decide_by.ensures)
