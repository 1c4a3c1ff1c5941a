use Rattle.mesh_config.proofs.Common.{◌≡◌, length, drop, take, map, view, first, tables_visits, Each}
use Rattle.mesh_config.proofs.stated.tables.all_tables.Given as goal

abbrev pub invariant-loop-value : goal.invariant-loop-value
invariant-loop-value g l = record {
  said : Each g.T.FromTable.says (map view (take l.value-index l.values)) l.all;
  faults : first (tables_visits g.T.FromTable.visits l.key (map view l.values)) ≡ first (tables_visits g.T.FromTable.visits l.key (map view (drop l.value-index l.values)));
  size : length l.all ≡ l.value-index;
}
