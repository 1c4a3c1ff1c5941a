use Rattle.mesh_relay.proofs.Common.{◌≡◌, drop, list_all, is_willing_id}
use Rattle.mesh_relay.proofs.sets.are_willing.Given as goal

abbrev pub invariant-loop-id : goal.invariant-loop-id
invariant-loop-id l = list_all (λ id. is_willing_id l.graph id) (drop l.id-index l.relays) ≡ list_all (λ id. is_willing_id l.graph id) l.relays
