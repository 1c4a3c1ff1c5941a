use Rattle.mesh_config.proofs.Common.{◌≡◌, drop, take, map, codes, view, first, tables_visits, run_interface_visits, RunInterfacesAre, HasOfEach}
use Rattle.mesh_config.proofs.run_tables.run.all_interfaces.Given as goal

abbrev pub invariant-loop-value : goal.invariant-loop-value
invariant-loop-value l = record {
  said : RunInterfacesAre (map view (take l.value-index l.values)) l.all;
  faults : first (tables_visits run_interface_visits (codes "interface") (map view l.values)) ≡ first (tables_visits run_interface_visits (codes "interface") (map view (drop l.value-index l.values)));
  size : HasOfEach l.value-index l.all;
}
