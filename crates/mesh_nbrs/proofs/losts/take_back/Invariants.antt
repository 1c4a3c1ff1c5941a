use Rattle.mesh_nbrs.proofs.Common.{◌≡◌, cond, take, None, list_any, HasDistinctKeys, find, addr_eq}
use Rattle.mesh_nbrs.proofs.losts.take_back.Given as goal

abbrev pub invariant-loop-addr : goal.invariant-loop-addr
invariant-loop-addr g l = record {
  back : (a : _) → find addr_eq (g.T.Table.content l.table) a ≡ cond (list_any (λ x. addr_eq x a) (take l.addr-index l.after)) None (find addr_eq (g.T.Table.content l.initial.table) a);
  distinct : HasDistinctKeys addr_eq (g.T.Table.content l.table);
}
