use Rattle.mesh_config.proofs.Common.{◌∙◌, codes, length_pushed, InterfaceIs, run_interface_visits, PortSays, CostsAre}
use Rattle.mesh_config.proofs.StatedLemmas.Elements.{tables_fail, tables_pass, tables_said}
use Rattle.mesh_config.proofs.run_tables.run.all_interfaces.Goals as goal

pub returns-in-Err-clause-answer : goal.returns-in-Err-clause-answer
returns-in-Err-clause-answer c =
    rw c.loop-value.invariant.faults
    (tables_fail run_interface_visits (codes "interface") c.args.values.now c.loop-value.value-index c.value-item.result c.in-Err.e c.value-item.is c.loop-value-test.true c.in-Err.ensures)

pub loop-value-preserved : goal.loop-value-preserved
loop-value-preserved c =
    let vs = c.args.values.now in let i = c.loop-value.value-index in let v = c.value-item.result in let here = c.value-item.is in let within = c.loop-value-test.true in
    let was = c.loop-value.invariant in let all = c.loop-value.all in let one = c.in-Ok.one in let met = c.in-Ok.ensures in let more = c.in_ok-put-in-Ok.ensures in
    record {
      said = record {
        are_interfaces = rw more.interfaces (tables_said InterfaceIs vs i v all.interfaces one.interface here within was.said.are_interfaces met.1.is_interface);
        are_ports = rw more.ports (tables_said PortSays vs i v all.ports one.port here within was.said.are_ports met.1.is_port);
        are_costs = rw more.costs (tables_said CostsAre vs i v all.costs one.costs here within was.said.are_costs met.1.are_costs);
      };
      faults = was.faults ∙ tables_pass run_interface_visits (codes "interface") vs i v here within met.0;
      size = record {
        interfaces = rw more.interfaces (length_pushed i all.interfaces one.interface was.size.interfaces);
        ports = rw more.ports (length_pushed i all.ports one.port was.size.ports);
        costs = rw more.costs (length_pushed i all.costs one.costs was.size.costs);
      };
    }
