use Rattle.mesh_paths.proofs.Common.{◌≡◌, drop, list_any, is_admitted_back}
use Rattle.mesh_paths.proofs.radio.is_met.Given as goal

abbrev pub invariant-loop-back : goal.invariant-loop-back
invariant-loop-back l = list_any (is_admitted_back l.routers l.end l.arc) l.arcs ≡ list_any (is_admitted_back l.routers l.end l.arc) (drop l.back-index l.arcs)
