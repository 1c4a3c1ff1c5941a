use Rattle.mesh_config.proofs.Common.{◌≡◌, take, map, StatedInterface, interface_fields, thresholds_of, threshold_pair, interface_costs, stated_interface_fields, stated_costs}
use Rattle.mesh_config.proofs.setup.run_interfaces.Given as goal

abbrev pub invariant-loop-at : goal.invariant-loop-at
invariant-loop-at l = record {
  fields : map interface_fields l.all ≡ map stated_interface_fields (take l.at l.interfaces);
  thresholds : map thresholds_of l.all ≡ map (λ (d : StatedInterface). threshold_pair l.thresholds) (take l.at l.interfaces);
  costs : map interface_costs l.all ≡ map stated_costs (take l.at l.costs);
}
