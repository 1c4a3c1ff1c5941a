use Rattle.mesh_nbrs.proofs.Common.{◌≡◌, cond, take, Some, ◌&&◌, not, list_any, contains, HasDistinctKeys, find, addr_eq}
use Rattle.mesh_nbrs.proofs.losts.put_gone.Given as goal

abbrev pub invariant-loop-addr : goal.invariant-loop-addr
invariant-loop-addr g l = record {
  gone : (a : _) → find addr_eq (g.T.Table.content l.table) a
      ≡ cond (list_any (λ x. addr_eq x a && not (contains addr_eq l.back x)) (take l.addr-index l.before)) (Some (record {}, l.until)) (find addr_eq (g.T.Table.content l.initial.table) a);
  distinct : HasDistinctKeys addr_eq (g.T.Table.content l.table);
}
