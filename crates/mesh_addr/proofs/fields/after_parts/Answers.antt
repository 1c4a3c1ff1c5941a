use Rattle.mesh_addr.proofs.Common.{arith}
use Rattle.mesh_addr.proofs.Loops.{part_short, part_passed, parts_done, next_part}
use Rattle.mesh_addr.proofs.fields.after_parts.Goals as goal

pub returns-then-end-place-clause-exact : goal.returns-then-end-place-clause-exact
returns-then-end-place-clause-exact c = part_short c.args.count c.loop.counter c.loop.place c.args.end c.args.size _ c.loop-test.true c.loop.invariant.reads c.if-end-place.true

pub loop-preserved : goal.loop-preserved
loop-preserved c = record {
  reads = part_passed c.args.count c.loop.counter c.loop.place c.args.end c.args.size _ c.loop-test.true c.loop.invariant.reads c.if-end-place.false;
  place = omega (arith, next_part c.loop.counter c.args.size);
  within = omega arith;
}

pub returns-clause-exact : goal.returns-clause-exact
returns-clause-exact c = parts_done c.args.count c.loop.counter c.loop.place c.args.end c.args.size _ c.loop-test.false c.loop.invariant.reads
