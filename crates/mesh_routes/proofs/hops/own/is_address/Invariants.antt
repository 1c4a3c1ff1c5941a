use Rattle.mesh_routes.proofs.Common.{Contains, AllWithin, Interface}
use Rattle.mesh_routes.proofs.hops.own.is_address.Given as goal

abbrev pub invariant-loop-interface : goal.invariant-loop-interface
invariant-loop-interface l = AllWithin (λ (iface : Interface). Contains iface.addrs l.addr → ⊥) l.interfaces 0 l.interface-index
