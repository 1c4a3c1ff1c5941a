use Rattle.mesh_config.proofs.Common.{◌≡◌, drop, list_any, name_eq}
use Rattle.mesh_config.proofs.keys.values.is_known.Given as goal

abbrev pub invariant-loop-other : goal.invariant-loop-other
invariant-loop-other l = list_any (λ k. name_eq l.key k.now) l.known ≡ list_any (λ k. name_eq l.key k.now) (drop l.other-index l.known)
