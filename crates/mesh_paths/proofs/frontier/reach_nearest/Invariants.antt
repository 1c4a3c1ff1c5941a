use Rattle.mesh_paths.proofs.Common.{IsSearch, work_in}
use Rattle.mesh_paths.proofs.frontier.reach_nearest.Given as goal

abbrev pub invariant-loop-step : goal.invariant-loop-step
invariant-loop-step l = IsSearch l.reached l.arcs l.from l.frontier.keys

abbrev pub decreases-loop-step : goal.decreases-loop-step
decreases-loop-step l = work_in l.reached l.arcs l.frontier.keys
