use Rattle.mesh_routes.proofs.Common.{◌≡◌, AllWithin, Attached4}
use Rattle.mesh_routes.proofs.hops.own.is_network.Given as goal

abbrev pub invariant-loop-attached : goal.invariant-loop-attached
invariant-loop-attached l = AllWithin (λ (att : Attached4). att.net ≡ l.node → ⊥) l.attached 0 l.attached-index
