use Rattle.mesh_config.proofs.Common.{◌≡◌, members_view, table_view, list_any, name_eq, first_unknown}
use Rattle.mesh_config.proofs.keys.values.known_keys.Given as goal

abbrev pub invariant-loop-key : goal.invariant-loop-key
invariant-loop-key l = first_unknown (λ key. list_any (λ k. name_eq key k.now) l.known) (table_view l.table) ≡ first_unknown (λ key. list_any (λ k. name_eq key k.now) l.known) (members_view l.key-iterator)
