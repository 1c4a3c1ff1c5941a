use Rattle.mesh_emulate.proofs.Common.{ℕ, List, ◌++◌, map, take, IsGreatest}
use Rattle.mesh_emulate.proofs.making.routes.greatest_with.Given as goal

abbrev pub invariant-loop-route : goal.invariant-loop-route
invariant-loop-route l = (metrics : List ℕ) → IsGreatest metrics l.fn.greatest → IsGreatest (metrics ++ map (λ r. r.metric) (take l.route-index l.routes)) l.all
