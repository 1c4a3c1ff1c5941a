use Rattle.mesh_config.proofs.Common.{◌≡◌, drop, list_all, attaches_no_host}
use Rattle.mesh_config.proofs.checks.checks.have_no_attached.Given as goal

abbrev pub invariant-loop-router : goal.invariant-loop-router
invariant-loop-router l = list_all (attaches_no_host l.addrs) l.routers ≡ list_all (attaches_no_host l.addrs) (drop l.router-index l.routers)
