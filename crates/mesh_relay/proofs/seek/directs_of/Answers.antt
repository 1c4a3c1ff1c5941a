use Rattle.mesh_relay.proofs.Common.{rules, IsNonDecreasingBy-from_sort_by_key, Direct}
use Rattle.mesh_relay.proofs.seek.directs_of.Goals as goal

pub returns-clause-order : goal.returns-clause-order
returns-clause-order c = IsNonDecreasingBy-from_sort_by_key (λ (d : Direct). d.addr.0) _ c.sort_unstable_by_key.ensures.sorted (λ a r q k. search rules)
