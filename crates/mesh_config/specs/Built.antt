-- A scenario out of what its tables state.
use Rattle.std.specs.Prelude.{◌≡◌, [], ◌∷◌, map, Ok}
use Rattle.mesh_atoms.specs.declared.settings.Scenario.{Scenario}
use Rattle.mesh_config.specs.declared.stated.stated.StatedScenario.{StatedScenario}
use Rattle.mesh_config.specs.Keys.Faults.{Visits, visit, first}
use Rattle.mesh_config.specs.Checks.Checks.{duplicates, joins}
use Rattle.mesh_config.specs.Checks.Compared.{stated_identifiers, arc_places, ends_of}
use Rattle.mesh_config.specs.Checks.Compared.{arc_fields}
use Rattle.mesh_config.specs.Fields.{settings_parts, stated_parts}
use Rattle.mesh_config.specs.Stated.Scenario.{stated_arc_fields}
use Rattle.mesh_config.specs.Senders.{addr_lists, HaveAllSenders, with_steps, HaveAllQualities, stated_steps}

-- the checks of a stated scenario: what stands twice, and then what the arcs join
abbrev pub stated_visits : StatedScenario → Visits
stated_visits d =
    first (duplicates (map stated_identifiers d.routers)) ∷ visit (joins (map stated_identifiers d.routers) [] (map arc_places d.arcs)) ∷ []

-- the scenario is built from what is stated: all of it as stated, the arcs by numbers, and each interface with its senders
pub record BuiltFrom (d : StatedScenario) (s : Scenario) : Type 0 where
  pub same_end : s.end ≡ d.numbers.end
  pub same_seed : s.seed ≡ d.numbers.seed
  pub same_loss_until : s.loss_until ≡ d.numbers.loss_until
  pub same_routers : map settings_parts s.routers ≡ map (stated_parts d.times) d.routers
  pub are_joined : joins (map stated_identifiers d.routers) [] (map arc_places d.arcs) ≡ Ok (map ends_of s.arcs)
  pub same_arcs : map arc_fields s.arcs ≡ map stated_arc_fields d.arcs
  pub are_senders : HaveAllSenders (addr_lists s.routers) s.arcs 0 s.routers
  pub are_qualities : HaveAllQualities (addr_lists s.routers) (with_steps s.arcs (stated_steps d.arcs)) 0 s.routers
