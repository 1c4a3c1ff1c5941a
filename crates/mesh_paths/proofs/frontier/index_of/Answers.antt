use Rattle.mesh_paths.proofs.Common.{rules, IsNonDecreasingBy-from_sort_by_key, ArcRun}
use Rattle.mesh_paths.proofs.Index.{index_moved}
use Rattle.mesh_paths.proofs.frontier.index_of.Goals as goal

pub returns-clause-all : goal.returns-clause-all
returns-clause-all c = index_moved c.args.arcs.now _ _ c.sort_unstable_by_key.ensures.permutation c.in_ok-runs.ensures

pub returns-clause-order : goal.returns-clause-order
returns-clause-order c = IsNonDecreasingBy-from_sort_by_key (λ (r : ArcRun). r.number) _ c.sort_unstable_by_key.ensures.sorted (λ a r q k. search rules)
