use Rattle.mesh_paths.proofs.Common.{List, leb, ltb, rules, refl, sym, subst, IsNonDecreasingBy, take_rest, IsPartitionPoint-from_clause, IsPartitionedBy-leb, IsPartitionedBy-ltb, IsNonDecreasingBy-drop, ArcRun}
use Rattle.mesh_paths.proofs.Index.{part_of}
use Rattle.mesh_paths.proofs.frontier.leaving.Goals as goal

pub returns : goal.returns
returns c =
    let whole = take_rest c.args.runs.now c.partition_point-start.result in
    let up = subst (λ (x : List ArcRun). IsNonDecreasingBy (λ (r : ArcRun). r.number) x) (sym whole) (IsNonDecreasingBy-drop (λ (r : ArcRun). r.number) c.partition_point-start.result c.args.runs.now c.requires) in
    let low = IsPartitionPoint-from_clause (λ (r : ArcRun). ltb r.number c.args.number) _ _ c.partition_point-start.ensures.partitioned (IsPartitionedBy-ltb (λ (r : ArcRun). r.number) c.args.runs.now c.args.number c.requires) (λ a r q k. search rules) in
    let high = IsPartitionPoint-from_clause (λ (r : ArcRun). leb r.number c.args.number) _ _ c.partition_point-end.ensures.partitioned (IsPartitionedBy-leb (λ (r : ArcRun). r.number) _ c.args.number up) (λ a r q k. search rules) in
    part_of c.args.runs.now _ _ c.args.number c.partition_point-start.result c.partition_point-end.result low high c.partition_point-start.ensures.bound c.partition_point-end.ensures.bound whole refl
