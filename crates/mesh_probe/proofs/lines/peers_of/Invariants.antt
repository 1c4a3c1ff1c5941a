use Rattle.mesh_probe.proofs.Common.{◌≢◌, ◌<◌, Joined, ListsNumbers}
use Rattle.mesh_probe.proofs.lines.peers_of.Given as goal

abbrev pub invariant-loop-router : goal.invariant-loop-router
invariant-loop-router l = ListsNumbers (λ z. (z < l.router) × ((z ≢ l.origin) × Joined l.scenario l.origin z)) l.peers.items
