use Rattle.mesh_relay.proofs.Common.{rules, dedup_same, IsNonDecreasingBy-from_sort_by_key, Near}
use Rattle.mesh_relay.proofs.Willing.{are_willing, has_same_id}
use Rattle.mesh_relay.proofs.ways.willing_of.Goals as goal

pub returns : goal.returns
returns c =
    are_willing c.args.graph.now c.in_ok-willing.willing.items _ _ c.requires c.in_ok-willing.ensures c.sort_unstable_by_key.ensures.permutation
    (IsNonDecreasingBy-from_sort_by_key (λ (n : Near). n.id.0) _ c.sort_unstable_by_key.ensures.sorted (λ a r q k. search rules))
    (dedup_same _ has_same_id _ (λ x y b f' x' y' k. search rules) _ _ c.dedup_by.ensures.filtered)
