use Rattle.mesh_relay.proofs.Common.{dedup_same, rules, is_no_better}
use Rattle.mesh_relay.proofs.Cheapest.{are_ways, in_order_sorted}
use Rattle.mesh_relay.proofs.ways.ways_of.Goals as goal

pub returns : goal.returns
returns c =
    are_ways c.args.graph.now c.args.willing.now c.in_ok-ways.ways.items _ _ c.requires c.in_ok-ways.ensures c.sort_unstable.ensures.permutation
    (in_order_sorted _ c.sort_unstable.ensures.sorted)
    (dedup_same _ is_no_better _ (λ x y b f' x' y' k. search rules) _ _ c.dedup_by.ensures.filtered)
