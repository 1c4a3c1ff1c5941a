use Rattle.mesh_paths.proofs.Common.{◌≡◌, map, filter, take, pair_of, is_joined}
use Rattle.mesh_paths.proofs.radio.pairs_of.Given as goal

abbrev pub invariant-loop-arc : goal.invariant-loop-arc
invariant-loop-arc l = l.pairs.items ≡ map pair_of (filter (is_joined l.routers l.end l.arcs) (take l.arc-index l.arcs))
