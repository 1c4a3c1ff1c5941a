use Rattle.mesh_config.proofs.Common.{◌≡◌, ◌++◌, take, flat_map}
use Rattle.mesh_config.proofs.checks.checks.put_router_addrs.Given as goal

abbrev pub invariant-loop-interface : goal.invariant-loop-interface
invariant-loop-interface l = l.out ≡ l.initial.out ++ flat_map (λ i. i.addrs) (take l.interface-index l.interface-items)
