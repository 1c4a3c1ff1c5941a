use Rattle.mesh_config.proofs.Common.{List, sym, ap, ◌∙◌, ◌++◌, Addr4, QualityStep, stated_lists, stated_steps, steps_at, quality_by}
use Rattle.mesh_config.proofs.Qualities.{qualities_more}
use Rattle.mesh_config.proofs.senders.qualities_to.Goals as goal

pub loop-number-preserved : goal.loop-number-preserved
loop-number-preserved c =
    let lists = stated_lists c.args.routers.now in let steps = stated_steps c.args.stated.now in let i = c.loop-number.number in let arc = c.index-arcs-number.result in
    let more : List (Addr4 × List QualityStep) = quality_by lists c.args.router c.args.iface (arc, steps_at steps i) in
    c.in_ok-put_quality.ensures
    ∙ (ap (λ (l : List (Addr4 × List QualityStep)). l ++ more) c.loop-number.invariant
    ∙ sym (qualities_more lists c.args.arcs.now steps c.args.router c.args.iface i arc c.index-arcs-number.is c.loop-number-test.true))
