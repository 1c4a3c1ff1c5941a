use Rattle.mesh_topo.proofs.Common.{◌≡◌, ◌≤◌, take, length, cond, None, list_any, HasDistinctKeys, find, AreKeys}
use Rattle.mesh_topo.proofs.tc_sets.outdated.remove_all.Given as goal

abbrev pub invariant-loop-key : goal.invariant-loop-key
invariant-loop-key g l = record {
  keys : AreKeys g.K.PartialEq.eq g.K.Ord.cmp l.keys (g.T.Table.content l.table);
  distinct : HasDistinctKeys g.K.PartialEq.eq (g.T.Table.content l.table);
  removed : (q : _) → find g.K.PartialEq.eq (g.T.Table.content l.table) q
      ≡ cond (list_any (g.K.PartialEq.eq q) (take l.key-index l.gone)) None (find g.K.PartialEq.eq (g.T.Table.content l.initial.table) q);
  count : length (g.T.Table.content l.table) ≤ length (g.T.Table.content l.initial.table);
}
