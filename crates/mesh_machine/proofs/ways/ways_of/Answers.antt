use Rattle.mesh_machine.proofs.LeavingArcs.{all_more}
use Rattle.mesh_machine.proofs.ways.ways_of.Goals as goal

pub loop-x-preserved : goal.loop-x-preserved
loop-x-preserved c = all_more _ _ _ c.index-routers-x.result _ _ _ c.loop-x-test.true c.index-routers-x.is c.in_ok-push.ensures.ok (rw (← c.len.ensures) c.in_ok-ways_of_router.ensures) c.loop-x.invariant
