use Rattle.mesh_settled.proofs.Common.{refl, slice_get_read}
use Rattle.mesh_settled.proofs.GapsLemmas.MetricLemmas.{one_pair, all_pairs}
use Rattle.mesh_settled.proofs.gaps.metrics.cheapest.Goals as goal

pub loop-k-preserved : goal.loop-k-preserved
loop-k-preserved c =
    rw c.cheaper-best.ensures (one_pair c.args.pairs.now c.args.y c.args.z c.loop-k.k c.index-pairs-k.result
    (slice_get_read c.args.pairs.now _ c.loop-k.k c.index-pairs-k.result refl c.loop-k-test.true c.index-pairs-k.is) c.loop-k.best c.loop-k.invariant)

pub returns : goal.returns
returns c = all_pairs c.args.pairs.now c.args.y c.args.z c.loop-k.k c.loop-k.best c.loop-k-test.false c.loop-k.auto.k-end c.loop-k.invariant
