use Rattle.mesh_nhdp.proofs.Common.{◌<◌, [], length, arith, get_or, get_or_default}
use Rattle.mesh_nhdp.proofs.BesideWalk.{goes_over_one}
use Rattle.mesh_nhdp.proofs.staying.expire_two_hops.Goals as goal

pub loop-i-preserved : goal.loop-i-preserved
loop-i-preserved g c =
    let old = c.loop-i.invariant in
    let within : c.loop-i.i < length c.loop-i.sets = omega (arith, c.loop-i-test.true, old.lengths) in
    let step = goes_over_one c.args.now c.args.sets.now c.loop-i.sets (get_or c.loop-i.sets c.loop-i.i c.index-sets-i.result) c.expire_and_count-gone.new.self c.loop-i.same c.is_none_gone-same.result c.expire_and_count-gone.result c.loop-i.i
    (record { lengths = old.lengths; done = old.done; distinct = old.distinct; left = old.left; unchanged = old.same; changed = old.changed }) within
    (get_or_default c.loop-i.sets c.loop-i.i [] c.index-sets-i.result within) c.expire_and_count-gone.ensures.expired c.expire_and_count-gone.ensures.distinct c.expire_and_count-gone.ensures.count c.expire_and_count-gone.ensures.none c.is_none_gone-same.ensures in
    record { lengths = step.lengths; done = step.done; distinct = step.distinct; left = step.left; same = step.unchanged; changed = step.changed }
