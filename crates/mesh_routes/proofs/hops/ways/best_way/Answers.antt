use Rattle.mesh_routes.proofs.Common.{sym, ◌∙◌, false≢true}
use Rattle.mesh_routes.proofs.HopsLemmas.WayOrder.{range_none, range_best, range_first}
use Rattle.mesh_routes.proofs.hops.ways.best_way.Goals as goal

pub returns-in_default-clause-none : goal.returns-in_default-clause-none
returns-in_default-clause-none c = range_none c.args.ways.now c.least_way.result c.args.originator c.range.result (c.range.ensures.in_range tt)
    c.least_way.ensures.originator c.least_way.ensures.metric c.least_way.ensures.iface c.least_way.ensures.next c.in_default.ensures.steps.0

pub returns-then-is_way_to-clause-best : goal.returns-then-is_way_to-clause-best
returns-then-is_way_to-clause-best c = range_best c.args.ways.now c.least_way.result c.args.originator c.range.result (c.range.ensures.in_range tt)
    c.least_way.ensures.originator c.least_way.ensures.metric c.least_way.ensures.iface c.least_way.ensures.next _ _ c.in-Some.ensures.steps
    (c.is_way_to.ensures.0 c.if-is_way_to.true)

pub returns-clause-none : goal.returns-clause-none
returns-clause-none c = range_first c.args.ways.now c.least_way.result c.args.originator c.range.result (c.range.ensures.in_range tt)
    c.least_way.ensures.originator c.least_way.ensures.metric c.least_way.ensures.iface c.least_way.ensures.next _ _ c.in-Some.ensures.steps
    (λ e. false≢true (sym c.if-is_way_to.false ∙ c.is_way_to.ensures.1 e))
