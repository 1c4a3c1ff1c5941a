use Rattle.mesh_expire.proofs.Common.{length, refl, arith, slice_get_read, slice_get_within}
use Rattle.mesh_expire.proofs.Places.{more_live}
use Rattle.mesh_expire.proofs.list_table.expired_place.Goals as goal

pub returns-then-index-now-clause-some : goal.returns-then-index-now-clause-some
returns-then-index-now-clause-some g c =
    let es = c.args.entries.now.items in
    let at = slice_get_read es (length es) c.loop-i.i c.index.result.now refl (omega (arith, c.loop-i-test.true, c.len-i-end.ensures)) c.index.ensures in
    (c.index.result.now, at, c.if-index-now.true)

pub loop-i-preserved : goal.loop-i-preserved
loop-i-preserved g c =
    let es = c.args.entries.now.items in
    let at = slice_get_read es (length es) c.loop-i.i c.index.result.now refl (omega (arith, c.loop-i-test.true, c.len-i-end.ensures)) c.index.ensures in
    more_live (λ e. e.1.1) c.args.now es c.loop-i.i c.index.result.now at c.if-index-now.false c.loop-i.invariant

pub returns-clause-none : goal.returns-clause-none
returns-clause-none g c i e at = c.loop-i.invariant i e (omega (arith, slice_get_within c.args.entries.now.items i e at, c.len-i-end.ensures)) at
