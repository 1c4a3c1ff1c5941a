use Rattle.mesh_probe.proofs.Common.{◌≢◌, ◌<◌, HearsOne, ListsNumbers}
use Rattle.mesh_probe.proofs.reached.reached_of.Given as goal

abbrev pub invariant-loop-router : goal.invariant-loop-router
invariant-loop-router l = ListsNumbers (λ z. (z < l.router) × ((z ≢ l.origin) × HearsOne l.scenario l.sends z)) l.reached
