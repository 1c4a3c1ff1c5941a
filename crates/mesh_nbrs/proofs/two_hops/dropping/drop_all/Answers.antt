use Rattle.mesh_nbrs.proofs.Common.{common_steps, ◌-◌, arith}
use Rattle.mesh_nbrs.proofs.Dropping.{stays, takes, all_dropped}
use Rattle.mesh_nbrs.proofs.two_hops.dropping.drop_all.Goals as goal

pub loop-place-preserved-then-is_of : goal.loop-place-preserved-then-is_of
loop-place-preserved-then-is_of g c =
    takes c.args.link _ _ c.loop-place.place c.loop-place.invariant (c.loop-place.place - 1) _ c.is_of.result (omega (arith, c.loop-place-test.true)) c.is_of.ensures.there c.is_of.ensures.past c.if-is_of.true c.remove_at.ensures.removed

pub loop-place-preserved : goal.loop-place-preserved
loop-place-preserved g c = grind (arith, common_steps, stays, c.loop-place.invariant, c.is_of.ensures.there)

pub returns-clause-dropped : goal.returns-clause-dropped
returns-clause-dropped g c = all_dropped c.args.link _ _ c.loop-place.place c.loop-place.invariant c.loop-place-test.false
