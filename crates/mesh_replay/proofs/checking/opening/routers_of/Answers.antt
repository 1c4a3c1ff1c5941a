use Rattle.mesh_replay.proofs.Common.{common_steps, arith}
use Rattle.mesh_replay.proofs.SceneLemmas.Beginning.{opening_more}
use Rattle.mesh_replay.proofs.checking.opening.routers_of.Goals as goal

pub loop-one-preserved : goal.loop-one-preserved
loop-one-preserved g c = grind (arith, common_steps, opening_more, c.one-item.is, c.in_ok-push.ensures.items, c.in_ok-make.ensures, c.loop-one.invariant)
