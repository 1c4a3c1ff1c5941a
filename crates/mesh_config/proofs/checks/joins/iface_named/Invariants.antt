use Rattle.mesh_config.proofs.Common.{◌≡◌, drop, position, position_from, name_eq}
use Rattle.mesh_config.proofs.checks.joins.iface_named.Given as goal

abbrev pub invariant-loop-at : goal.invariant-loop-at
invariant-loop-at l = position (λ i. name_eq l.name i.name) l.interfaces ≡ position_from (λ i. name_eq l.name i.name) l.at (drop l.at l.interfaces)
