use Rattle.mesh_emulate.proofs.Common.{◌∙◌, sym}
use Rattle.mesh_emulate.proofs.MakingLemmas.Growing.{drawn_more}
use Rattle.mesh_emulate.proofs.making.pairs.random_pairs.Goals as goal

pub loop-times-preserved : goal.loop-times-preserved
loop-times-preserved c =
    rw (c.in_ok-join.ensures, c.word_below-a.ensures.value, c.word_below-b.ensures.value)
    (sym (drawn_more c.args.seed c.args.routers c.loop-times.times c.loop-times.pairs c.loop-times-test.true) ∙ c.loop-times.invariant)
