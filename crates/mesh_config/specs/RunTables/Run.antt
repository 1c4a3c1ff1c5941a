-- The tables of `run`: neighbours, interfaces with their ports, the router, and the top.
use Rattle.std.specs.Prelude.{◌≡◌, ℕ, List, [], ◌∷◌, ◌++◌, length, codes, map, Ok}
use Rattle.toml.specs.Data.{Data, Members, as_table}
use Rattle.mesh_atoms.specs.declared.addr.Addr4.{Addr4}
use Rattle.mesh_atoms.specs.declared.settings.Port.{Port}
use Rattle.mesh_atoms.specs.declared.settings.SenderMetric.{SenderMetric}
use Rattle.mesh_atoms.specs.declared.admit.SenderQuality.{SenderQuality}
use Rattle.mesh_config.specs.declared.run_tables.stated.Costs.{Costs}
use Rattle.mesh_config.specs.declared.run_tables.stated.RunInterfaces.{RunInterfaces}
use Rattle.mesh_config.specs.declared.run_tables.stated.StatedNeighbour.{StatedNeighbour}
use Rattle.mesh_config.specs.declared.run_tables.stated.StatedRunInterface.{StatedRunInterface}
use Rattle.mesh_config.specs.declared.run_tables.stated.StatedRunRouter.{StatedRunRouter}
use Rattle.mesh_config.specs.declared.run_tables.stated.StatedRun.{StatedRun}
use Rattle.mesh_config.specs.Keys.Faults.{ReadValue, Visits, visit, first, listed}
use Rattle.mesh_config.specs.Keys.Values.{optional, required, whole, text, array_or_none, each_turned, table_visits, table_read, inner_visits}
use Rattle.mesh_atoms.specs.Literals.{address_of, endpoint_of}
use Rattle.mesh_config.specs.Keys.Ports.{port_of}
use Rattle.mesh_config.specs.Stated.Tables.{tables_visits, Each}
use Rattle.mesh_config.specs.Stated.Steps.{steps_visits, StepsAre}
use Rattle.mesh_config.specs.Stated.Times.{TimesIs}
use Rattle.mesh_config.specs.Stated.Router.{named_visits, InterfaceIs, metric_asked, IsMetricRead, head_visits, interfaces, networks_visits, RouterIs}
use Rattle.mesh_config.specs.Stated.Scenario.{end_moment, times_part, sub_times}

-- ---- a neighbour

-- the address from which the neighbour sends, other than 0.0.0.0; it must stand
abbrev pub address : Members → ReadValue Addr4
address = required (text address_of) (codes "address")

-- the visits of the table of a neighbour: its address, its metric, and the qualities of what it sends
abbrev pub neighbour_visits : Members → Visits
neighbour_visits table =
    table_visits (codes "address" ∷ codes "metric" ∷ codes "quality" ∷ []) table
    (visit (address table) ∷ visit (metric_asked table) ∷ first (steps_visits table) ∷ [])

-- the metric of what the neighbour sends
pub record NeighbourIs (table : Members) (sender : SenderMetric) : Type 0 where
  pub is_sender : address table ≡ Ok sender.sender
  pub is_metric : IsMetricRead (metric_asked table) sender.metric

-- the qualities of what the neighbour sends
pub record QualityIs (table : Members) (quality : SenderQuality) : Type 0 where
  pub is_sender : address table ≡ Ok quality.sender
  pub are_steps : StepsAre table quality.steps

-- the stated neighbour is what its table says
pub record StatedNeighbourIs (table : Members) (neighbour : StatedNeighbour) : Type 0 where
  pub is_cost : NeighbourIs table neighbour.cost
  pub is_quality : QualityIs table neighbour.quality

-- ---- an interface with its port

-- where it receives: an address with a port from 1 to 65535; it must stand
abbrev pub local : Members → ReadValue (Addr4 × ℕ)
local = required (text endpoint_of) (codes "local")

-- where it sends to: at most 64 of these; none where they are absent
abbrev pub peers : Members → ReadValue (List (Addr4 × ℕ))
peers table = each_turned (text endpoint_of) (codes "peers") (array_or_none 64 (codes "peers") table)

-- the number that its own metric must be at least: that of what it receives from any but its neighbours; 1 where it is absent
abbrev pub own_metric_asked : Members → ReadValue ℕ
own_metric_asked = optional 1 (whole 1 16776960) (codes "metric")

-- the elements that are to be the tables of its neighbours, at most 1,024; none where they are absent
abbrev pub neighbours : Members → ReadValue (List Data)
neighbours = array_or_none 1024 (codes "neighbour")

-- the number of the neighbours is visited, and then the table of each
abbrev pub neighbours_visits : Members → Visits
neighbours_visits table = visit (neighbours table) ∷ tables_visits neighbour_visits (codes "neighbour") (listed (neighbours table))

-- where the interface receives is visited, and then where it sends to
abbrev pub port_visits : Members → Visits
port_visits table = visit (local table) ∷ visit (peers table) ∷ []

-- its own metric is visited, and then its neighbours
abbrev pub cost_visits : Members → Visits
cost_visits table = visit (own_metric_asked table) ∷ first (neighbours_visits table) ∷ []

-- the visits of the table of an interface, for `run`: its name and addresses, its port, and the metrics of what it receives
abbrev pub run_interface_visits : Members → Visits
run_interface_visits table =
    table_visits (codes "name" ∷ codes "addresses" ∷ codes "local" ∷ codes "peers" ∷ codes "metric" ∷ codes "neighbour" ∷ []) table
    (first (named_visits table) ∷ first (port_visits table) ∷ first (cost_visits table) ∷ [])

-- where an interface receives, and where it sends to
pub record PortSays (table : Members) (port : Port) : Type 0 where
  pub is_local : local table ≡ Ok (port_of port.local)
  pub are_peers : peers table ≡ Ok (map port_of port.peers)

-- the stated costs are what the table of an interface says
pub record CostsAre (table : Members) (costs : Costs) : Type 0 where
  pub is_metric : IsMetricRead (own_metric_asked table) costs.metric
  pub are_neighbours : Each StatedNeighbourIs (listed (neighbours table)) costs.neighbours

-- the stated interface is what its table says
pub record RunInterfaceIs (table : Members) (stated : StatedRunInterface) : Type 0 where
  pub is_interface : InterfaceIs table stated.interface
  pub is_port : PortSays table stated.port
  pub are_costs : CostsAre table stated.costs

-- the stated interfaces are what these tables say, one after the other
pub record RunInterfacesAre (tables : List Data) (stated : RunInterfaces) : Type 0 where
  pub are_interfaces : Each InterfaceIs tables stated.interfaces
  pub are_ports : Each PortSays tables stated.ports
  pub are_costs : Each CostsAre tables stated.costs

-- so many interfaces are stated, each with its port and its costs
pub record HasOfEach (count : ℕ) (stated : RunInterfaces) : Type 0 where
  pub interfaces : length stated.interfaces ≡ count
  pub ports : length stated.ports ≡ count
  pub costs : length stated.costs ≡ count

-- an interface is stated behind those before
pub record HasOneMore (old new : RunInterfaces) (one : StatedRunInterface) : Type 0 where
  pub interfaces : new.interfaces ≡ old.interfaces ++ one.interface ∷ []
  pub ports : new.ports ≡ old.ports ++ one.port ∷ []
  pub costs : new.costs ≡ old.costs ++ one.costs ∷ []

-- ---- the router and the top

-- the number of the interfaces is visited, and then the table of each
abbrev pub run_interfaces_visits : Members → Visits
run_interfaces_visits table = visit (interfaces table) ∷ tables_visits run_interface_visits (codes "interface") (listed (interfaces table))

-- the table of the router is visited: what comes before its interfaces, these, and the networks that it attaches
abbrev pub run_router_visits : Members → Visits
run_router_visits table = first (head_visits table) ∷ first (run_interfaces_visits table) ∷ first (networks_visits table) ∷ []

-- the stated router is what its table says, with the port and the costs of each interface
pub record RunRouterIs (table : Members) (stated : StatedRunRouter) : Type 0 where
  pub is_router : RouterIs table stated.router
  pub are_ports : Each PortSays (listed (interfaces table)) stated.ports
  pub are_costs : Each CostsAre (listed (interfaces table)) stated.costs

-- the table of the router, which is one alone; it must stand
abbrev pub router_table : Members → ReadValue Members
router_table = required as_table (codes "router")

-- the visits of the top table of `run`: the end, the times, and the table of the router
abbrev pub run_table_visits : Members → Visits
run_table_visits table =
    table_visits (codes "end_ms" ∷ codes "times" ∷ codes "router" ∷ []) table
    (visit (end_moment table) ∷ first (times_part table) ∷ first (inner_visits run_router_visits (router_table table)) ∷ [])

-- what is stated is what the top table and the tables in it say; the end is in ticks
pub record RunIs (table : Members) (run : StatedRun) : Type 0 where
  pub is_end : end_moment table ≡ Ok run.end
  pub are_times : TimesIs (sub_times table) run.times
  pub is_router : RunRouterIs (table_read (router_table table)) run.router
