-- What the text says of a scenario, and its first refusal.
use Rattle.std.specs.Prelude.{◌≡◌, ℕ, List, map, All, Some, Ok}
use Rattle.toml.specs.Data.{Members}
use Rattle.mesh_atoms.specs.declared.admit.QualityStep.{QualityStep}
use Rattle.mesh_atoms.specs.declared.settings.Interface.{Interface}
use Rattle.mesh_atoms.specs.declared.settings.RadioArc.{RadioArc}
use Rattle.mesh_atoms.specs.declared.settings.RouterSettings.{RouterSettings}
use Rattle.mesh_atoms.specs.declared.settings.Scenario.{Scenario}
use Rattle.mesh_config.specs.Keys.Faults.{Visits, fault, first, listed}
use Rattle.mesh_config.specs.Stated.Tables.{Each}
use Rattle.mesh_config.specs.Keys.Document.{TextSays, text_visits}
use Rattle.mesh_config.specs.Stated.Times.{TimesIs}
use Rattle.mesh_config.specs.Stated.Rules.{AreThresholds}
use Rattle.mesh_config.specs.Stated.Steps.{StepsAre}
use Rattle.mesh_config.specs.Stated.Router.{AreInterfaceFields, AreRouterFields, interfaces, attached, AttachedIs, router_fields}
use Rattle.mesh_config.specs.Stated.Scenario.{end_moment, seed, loss_until, sub_times, routers, arcs, AreArcFields}
use Rattle.mesh_config.specs.Checks.Checks.{arc_ends, scenario_visits}
use Rattle.mesh_config.specs.Checks.Compared.{ends_of}
use Rattle.mesh_config.specs.Checks.Compared.{arc_fields}
use Rattle.mesh_config.specs.Fields.{interface_fields}
use Rattle.mesh_config.specs.Senders.{addr_lists, HaveAllSenders, with_steps, HaveAllQualities}

-- an interface, whatever its senders
abbrev pub InterfaceSays : Members → Interface → Type 0
InterfaceSays table interface = AreInterfaceFields table (interface_fields interface)

-- each interface has the thresholds of the router's table
abbrev pub Admits : Members → List Interface → Type 0
Admits table interfaces = All (λ i. AreThresholds table i.admit.accept i.admit.reject) interfaces

-- a router, where `times` is the table of times at the top
pub record RouterSays (times table : Members) (router : RouterSettings) : Type 0 where
  pub are_fields : AreRouterFields table (router_fields router)
  pub are_times : TimesIs times router.times
  pub are_interfaces : Each InterfaceSays (listed (interfaces table)) router.interfaces
  pub admits : Admits table router.interfaces
  pub are_attached : Each AttachedIs (listed (attached table)) router.attached

-- an arc, whatever it joins
abbrev pub ArcSays : Members → RadioArc → Type 0
ArcSays table arc = AreArcFields table (arc_fields arc)

-- the scenario is what the top table says, where the steps of its arcs give the qualities of senders; moments are in ticks
pub record ScenarioSays (table : Members) (scenario : Scenario) : Type 0 where
  pub is_end : end_moment table ≡ Ok scenario.end
  pub is_seed : seed table ≡ Ok scenario.seed
  pub is_loss_until : loss_until table ≡ Ok scenario.loss_until
  pub are_routers : Each (RouterSays (sub_times table)) (listed (routers table)) scenario.routers
  pub are_joined : arc_ends table ≡ Ok (map ends_of scenario.arcs)
  pub are_arcs : Each ArcSays (listed (arcs table)) scenario.arcs
  pub are_senders : HaveAllSenders (addr_lists scenario.routers) scenario.arcs 0 scenario.routers
  pub steps : List (List QualityStep)
  pub are_steps : Each StepsAre (listed (arcs table)) steps
  pub are_qualities : HaveAllQualities (addr_lists scenario.routers) (with_steps scenario.arcs steps) 0 scenario.routers

-- the scenario is what the text says
abbrev pub SettingsIs : List ℕ → Scenario → Type 0
SettingsIs = TextSays ScenarioSays

-- the visits of a text, as a list
abbrev pub refusals : List ℕ → Visits
refusals = text_visits scenario_visits

-- the first fault of a text has that number and that key
abbrev pub FirstRefusal : List ℕ → ℕ → List ℕ → Type 0
FirstRefusal text number key = first (refusals text) ≡ Some (fault number key)
