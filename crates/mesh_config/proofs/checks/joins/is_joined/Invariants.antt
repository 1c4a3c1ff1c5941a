use Rattle.mesh_config.proofs.Common.{◌≡◌, drop, map, list_any, ends_eq, ends, ends_of}
use Rattle.mesh_config.proofs.checks.joins.is_joined.Given as goal

abbrev pub invariant-loop-arc : goal.invariant-loop-arc
invariant-loop-arc l = list_any (ends_eq (ends l.from l.to)) (map ends_of l.arcs) ≡ list_any (ends_eq (ends l.from l.to)) (map ends_of (drop l.arc-index l.arcs))
