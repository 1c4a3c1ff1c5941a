use Rattle.mesh_relay.proofs.Common.{nat_lt, rules, IsPartitionPoint-from_clause, IsPartitionedBy-ltb, Direct}
use Rattle.mesh_relay.proofs.seek.first_direct.Goals as goal

pub returns-clause-point : goal.returns-clause-point
returns-clause-point c =
    IsPartitionPoint-from_clause (λ d. nat_lt d.addr.0 c.args.addr.0) _ _ c.partition_point.ensures.partitioned
    (IsPartitionedBy-ltb (λ (d : Direct). d.addr.0) c.args.directs.now c.args.addr.0 c.requires) (λ a r q k. search rules)
