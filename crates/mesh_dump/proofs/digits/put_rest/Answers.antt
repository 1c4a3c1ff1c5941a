use Rattle.mesh_dump.proofs.Common.{arith, ◌∙◌, length-set}
use Rattle.mesh_dump.proofs.Pairs.{one_more}
use Rattle.mesh_dump.proofs.digits.put_rest.Goals as goal

pub loop-i-preserved : goal.loop-i-preserved
loop-i-preserved c = record {
  size = length-set c.loop-i.out c.loop-i.i _ ∙ c.loop-i.invariant.size;
  pairs = λ few before.
      one_more c.args.text.now c.loop-i.out c.loop-i.i c.loop-i.all c.high_of.result c.low_of.result (omega (arith, c.loop-i-test.true, c.loop-i.invariant.size))
      (λ small. c.loop-i.invariant.pairs small before) c.high_of.ensures.value c.low_of.ensures.value few;
}
