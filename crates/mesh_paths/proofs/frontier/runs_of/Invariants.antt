use Rattle.mesh_paths.proofs.Common.{◌-◌, length}
use Rattle.mesh_paths.proofs.Index.{IsUpto}
use Rattle.mesh_paths.proofs.frontier.runs_of.Given as goal

abbrev pub invariant-loop-start : goal.invariant-loop-start
invariant-loop-start l = IsUpto l.arcs l.runs.items l.start

abbrev pub decreases-loop-start : goal.decreases-loop-start
decreases-loop-start l = length l.arcs - l.start
