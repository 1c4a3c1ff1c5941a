use Rattle.mesh_config.proofs.Common.{◌≡◌, take, flat_map, router_addrs}
use Rattle.mesh_config.proofs.checks.checks.all_addrs.Given as goal

abbrev pub invariant-loop-router : goal.invariant-loop-router
invariant-loop-router l = l.addrs ≡ flat_map router_addrs (take l.router-index l.routers)
