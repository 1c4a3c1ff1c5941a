use Rattle.mesh_paths.proofs.ReachedLaw.{none_settled, reached_start}
use Rattle.mesh_paths.proofs.FrontierLaw.{begun, taken, passed, all_met}
use Rattle.mesh_paths.proofs.frontier.reach_nearest.Goals as goal

pub loop-step-init : goal.loop-step-init
loop-step-init c =
    let none = none_settled c.new-reached.result c.new-reached.ensures.empty in
    begun c.new-reached.result c.settle.new.settled c.args.arcs.now c.args.from c.put_step.new.frontier.keys none c.in_ok-settle.ensures.settled
    (reached_start c.new-reached.result c.settle.new.settled c.args.arcs.now c.args.from none c.in_ok-settle.ensures.settled c.in_ok-settle.ensures.keyed) c.in_ok-put_step.ensures.has

pub offer_arcs-requires-clause-taking : goal.offer_arcs-requires-clause-taking
offer_arcs-requires-clause-taking c = taken c.loop-step.reached c.args.arcs.now c.args.from c.loop-step.frontier.keys c.pop_first.new.self.keys c.in-Some.step c.in-Some-latest.first
    c.in-Some.ensures.removal c.in-Some-latest.ensures.row c.loop-step.invariant

pub loop-step-preserved : goal.loop-step-preserved
loop-step-preserved c = passed c.loop-step.reached c.args.arcs.now c.args.from c.loop-step.frontier.keys c.pop_first.new.self.keys c.in-Some.step c.in-Some.ensures.removal c.in_default-latest.ensures.passed c.loop-step.invariant

pub returns-clause-met : goal.returns-clause-met
returns-clause-met c = all_met c.loop-step.reached c.args.arcs.now c.args.from c.loop-step.frontier.keys (λ some. let e = c.in_default.ensures.variant.1 some in absurd (cc)) c.loop-step.invariant
