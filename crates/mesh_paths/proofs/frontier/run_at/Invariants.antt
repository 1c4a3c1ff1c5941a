use Rattle.mesh_paths.proofs.Index.{IsLeft}
use Rattle.mesh_paths.proofs.frontier.run_at.Given as goal

abbrev pub invariant-loop-place : goal.invariant-loop-place
invariant-loop-place l = IsLeft l.arcs l.number l.start l.place
