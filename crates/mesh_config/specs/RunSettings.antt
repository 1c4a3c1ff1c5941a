-- What the text says of the router of `run`, and its first refusal.
use Rattle.std.specs.Prelude.{◌≡◌, ℕ, List, [], ◌∷◌, map, codes, Bool, Some, Ok, Err}
use Rattle.std.specs.List.{list_all}
use Rattle.toml.specs.Data.{Members}
use Rattle.mesh_atoms.specs.declared.addr.Addr4.{Addr4}
use Rattle.mesh_atoms.specs.declared.settings.Interface.{Interface}
use Rattle.mesh_atoms.specs.declared.settings.RouterSettings.{RouterSettings}
use Rattle.mesh_atoms.specs.declared.settings.RunSetup.{RunSetup}
use Rattle.mesh_atoms.specs.declared.settings.Times.{Times}
use Rattle.mesh_atoms.specs.Base.{addr_eq}
use Rattle.mesh_atoms.specs.Settings.{are_distinct}
use Rattle.mesh_config.specs.declared.run_tables.stated.Costs.{Costs}
use Rattle.mesh_config.specs.declared.run_tables.stated.StatedNeighbour.{StatedNeighbour}
use Rattle.mesh_config.specs.declared.run_tables.stated.StatedRun.{StatedRun}
use Rattle.mesh_config.specs.declared.run_tables.stated.StatedRunRouter.{StatedRunRouter}
use Rattle.mesh_config.specs.Keys.Faults.{ReadValue, Visits, fault, first, listed}
use Rattle.mesh_config.specs.Keys.Document.{TextSays, text_visits}
use Rattle.mesh_config.specs.Keys.Values.{table_read}
use Rattle.mesh_config.specs.Stated.Tables.{Each}
use Rattle.mesh_config.specs.Stated.Router.{IsMetricRead, interfaces}
use Rattle.mesh_config.specs.Stated.Scenario.{end_moment, sub_times}
use Rattle.mesh_config.specs.RunTables.Run.{address, NeighbourIs, QualityIs, PortSays, own_metric_asked, neighbours, router_table, run_table_visits}
use Rattle.mesh_config.specs.Checks.Checks.{table_identifiers, tables_in, duplicate_unless, duplicates}
use Rattle.mesh_config.specs.Checks.Compared.{stated_identifiers}
use Rattle.mesh_config.specs.Fields.{CostFields, interface_costs, settings_parts, stated_parts}
use Rattle.mesh_config.specs.Settings.{RouterSays}

-- ---- what the tables say

-- the metrics of what an interface receives: its own, and those of its neighbours; and the qualities of these
pub record CostsSay (table : Members) (interface : Interface) : Type 0 where
  pub is_metric : IsMetricRead (own_metric_asked table) interface.metric
  pub are_senders : Each NeighbourIs (listed (neighbours table)) interface.senders
  pub are_qualities : Each QualityIs (listed (neighbours table)) interface.admit.senders

-- the table of the router; the empty one where a fault stands
abbrev pub the_router : Members → Members
the_router table = table_read (router_table table)

-- the setup is what the top table says: the end in ticks, the router, and the costs and the port of each of its interfaces
pub record SetupSays (table : Members) (setup : RunSetup) : Type 0 where
  pub is_end : end_moment table ≡ Ok setup.end
  pub is_router : RouterSays (sub_times table) (the_router table) setup.router
  pub are_costs : Each CostsSay (listed (interfaces (the_router table))) setup.router.interfaces
  pub are_ports : Each PortSays (listed (interfaces (the_router table))) setup.ports

-- ---- the checks after the walk

-- an address that is read; 0.0.0.0 where a fault stands
abbrev pub addr_in : ReadValue Addr4 → Addr4
addr_in (Ok addr) = addr
addr_in (Err f) = record { 0 = 0 }

-- the addresses of the neighbours of an interface
abbrev pub neighbour_addrs : Members → List Addr4
neighbour_addrs interface = map (λ n. addr_in (address n)) (tables_in (neighbours interface))

-- the checks of a router: what stands twice, and then that no interface has two neighbours of one address
abbrev pub run_checks : Members → Visits
run_checks router =
    first (duplicates (table_identifiers router ∷ []))
    ∷ duplicate_unless (list_all (are_distinct addr_eq) (map neighbour_addrs (tables_in (interfaces router)))) (codes "address")
    ∷ []

-- the walk from the top table comes first, and then the checks
abbrev pub setup_visits : Members → Visits
setup_visits table = first (run_table_visits table) ∷ first (run_checks (the_router table)) ∷ []

-- the setup is what the text says
abbrev pub SetupIs : List ℕ → RunSetup → Type 0
SetupIs = TextSays SetupSays

-- the visits of a text, as a list
abbrev pub run_refusals : List ℕ → Visits
run_refusals = text_visits setup_visits

-- the first fault of a text has that number and that key
abbrev pub FirstRunRefusal : List ℕ → ℕ → List ℕ → Type 0
FirstRunRefusal text number key = first (run_refusals text) ≡ Some (fault number key)

-- ---- what the tables state

-- what a stated interface receives: its own metric, and the metrics and the qualities of its neighbours
abbrev pub stated_costs : Costs → CostFields
stated_costs costs = (costs.metric, (map (λ n. n.cost) costs.neighbours, map (λ n. n.quality) costs.neighbours))

-- two neighbours are taken for the same by their address
abbrev pub same_neighbour : StatedNeighbour → StatedNeighbour → Bool
same_neighbour a b = addr_eq a.cost.sender b.cost.sender

-- no interface has two neighbours of one address
abbrev pub senders_checked : List Costs → Bool
senders_checked costs = list_all (λ c. are_distinct same_neighbour c.neighbours) costs

-- the router is made from what is stated, with the times that are stated at the top
pub record RunRouterFrom (times : Times) (d : StatedRunRouter) (router : RouterSettings) : Type 0 where
  pub same_parts : settings_parts router ≡ stated_parts times d.router
  pub same_costs : map interface_costs router.interfaces ≡ map stated_costs d.costs

-- the setup is made from what is stated
pub record SetupFrom (d : StatedRun) (setup : RunSetup) : Type 0 where
  pub same_end : setup.end ≡ d.end
  pub is_router : RunRouterFrom d.times d.router setup.router
  pub same_ports : setup.ports ≡ d.router.ports

-- the checks of a router, as it is stated
abbrev pub stated_run_checks : StatedRunRouter → Visits
stated_run_checks d = first (duplicates (stated_identifiers d.router ∷ [])) ∷ duplicate_unless (senders_checked d.costs) (codes "address") ∷ []
