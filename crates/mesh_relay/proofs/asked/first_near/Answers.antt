use Rattle.mesh_relay.proofs.Common.{nat_lt, rules, IsPartitionPoint-from_clause, IsPartitionedBy-ltb, Near}
use Rattle.mesh_relay.proofs.Flags.{ids_rise}
use Rattle.mesh_relay.proofs.asked.first_near.Goals as goal

pub returns : goal.returns
returns c =
    IsPartitionPoint-from_clause (λ n. nat_lt n.id.0 c.args.id.0) _ _ c.partition_point.ensures.partitioned
    (IsPartitionedBy-ltb (λ (n : Near). n.id.0) c.args.willing.now c.args.id.0 (ids_rise c.args.willing.now c.requires)) (λ a r q k. search rules)
