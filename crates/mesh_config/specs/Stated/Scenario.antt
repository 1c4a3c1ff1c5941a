-- The tables of a scenario: arcs, and the top.
use Rattle.std.specs.Prelude.{◌≡◌, ℕ, List, [], ◌∷◌, codes, Option, Some, None, Ok, option_map}
use Rattle.toml.specs.Data.{Data, Members, no_members, as_table}
use Rattle.mesh_config.specs.declared.stated.stated.ArcNumbers.{ArcNumbers}
use Rattle.mesh_config.specs.declared.stated.stated.ScenarioNumbers.{ScenarioNumbers}
use Rattle.mesh_config.specs.declared.stated.stated.StatedArc.{StatedArc}
use Rattle.mesh_config.specs.declared.stated.stated.StatedEnds.{StatedEnds}
use Rattle.mesh_config.specs.declared.stated.stated.StatedScenario.{StatedScenario}
use Rattle.mesh_atoms.specs.declared.codes.metric.Metric.{Metric}
use Rattle.mesh_config.specs.Keys.Faults.{ReadValue, Visits, visit, first, listed, then_turned}
use Rattle.mesh_config.specs.Keys.Values.{optional, required, whole, text, array, array_or_none, table_visits, ticks, table_read, inner_visits}
use Rattle.mesh_atoms.specs.Literals.{place_of}
use Rattle.mesh_config.specs.Stated.Tables.{tables_visits, Each}
use Rattle.mesh_config.specs.Stated.Steps.{steps_visits, StepsAre}
use Rattle.mesh_config.specs.Stated.Times.{times_visits, TimesIs}
use Rattle.mesh_config.specs.Stated.Router.{metric_asked, IsMetricRead, router_visits, RouterIs}

-- ---- an arc

-- an end of an arc at a key: the name of a router, and that of one of its interfaces; it must stand
abbrev pub place : List ℕ → Members → ReadValue (List ℕ × List ℕ)
place = required (text place_of)

-- how many of a thousand frames are lost over the arc; 0 where it is absent
abbrev pub loss : Members → ReadValue ℕ
loss = optional 0 (whole 0 1000) (codes "loss")

-- how long a frame is under way, from 1 to 1,000 ms, in ticks; 1 ms where it is absent
abbrev pub delay : Members → ReadValue ℕ
delay table = then_turned ticks (optional 1 (whole 1 1000) (codes "delay_ms") table)

-- the interface that sends is visited, and then the one that receives
abbrev pub end_visits : Members → Visits
end_visits table = visit (place (codes "from") table) ∷ visit (place (codes "to") table) ∷ []

-- the keys of an arc behind its ends
abbrev pub arc_number_visits : Members → Visits
arc_number_visits table = visit (metric_asked table) ∷ visit (loss table) ∷ visit (delay table) ∷ []

-- the visits of the table of an arc: its ends, its numbers, and the qualities of what is sent over it
abbrev pub arc_visits : Members → Visits
arc_visits table =
    table_visits (codes "from" ∷ codes "to" ∷ codes "metric" ∷ codes "loss" ∷ codes "delay_ms" ∷ codes "quality" ∷ []) table
    (first (end_visits table) ∷ first (arc_number_visits table) ∷ first (steps_visits table) ∷ [])

-- what the table of an arc says besides its ends and its qualities
pub record ArcFields : Type 0 where
  pub metric : Metric
  pub loss : ℕ
  pub delay : ℕ

-- the table says this metric, rounded up, this loss and this delay
pub record AreArcFields (table : Members) (fields : ArcFields) : Type 0 where
  pub is_metric : IsMetricRead (metric_asked table) fields.metric
  pub is_loss : loss table ≡ Ok fields.loss
  pub is_delay : delay table ≡ Ok fields.delay

-- these fields of the numbers of an arc
abbrev pub arc_number_fields : ArcNumbers → ArcFields
arc_number_fields numbers = record { metric = numbers.metric; loss = numbers.loss; delay = numbers.delay }

-- these fields of a stated arc
abbrev pub stated_arc_fields : StatedArc → ArcFields
stated_arc_fields arc = arc_number_fields arc.numbers

-- the table names the first end as the interface that sends and the second as the one that receives
pub record AreEnds (table : Members) (ends : StatedEnds) : Type 0 where
  pub is_from : place (codes "from") table ≡ Ok (ends.from.router, ends.from.iface)
  pub is_to : place (codes "to") table ≡ Ok (ends.to.router, ends.to.iface)

-- the stated arc is what its table says
pub record ArcIs (table : Members) (arc : StatedArc) : Type 0 where
  pub are_ends : AreEnds table arc.ends
  pub are_fields : AreArcFields table (stated_arc_fields arc)
  pub are_steps : StepsAre table arc.steps

-- ---- the top

-- the moment at which the run ends, from 1 ms to an hour, in ticks; it must stand
abbrev pub end_moment : Members → ReadValue ℕ
end_moment table = then_turned ticks (required (whole 1 3600000) (codes "end_ms") table)

-- the number from which the losses are drawn, less than 2^63; 0 where it is absent
abbrev pub seed : Members → ReadValue ℕ
seed = optional 0 (whole 0 9223372036854775807) (codes "seed")

-- a whole number from `low` to `high`, of a key that may be absent without a default
abbrev pub some_whole : ℕ → ℕ → Data → Option (Option ℕ)
some_whole low high d = option_map Some (whole low high d)

-- the moment from which on nothing is lost, up to an hour, in ticks; none where it is absent, and losses never end
abbrev pub loss_until : Members → ReadValue (Option ℕ)
loss_until table = then_turned (option_map ticks) (optional None (some_whole 0 3600000) (codes "loss_until_ms") table)

-- the table of times; the empty one, with which all defaults stand, where it is absent
abbrev pub times_table : Members → ReadValue Members
times_table = optional no_members as_table (codes "times")

-- the same, where a fault is taken for the empty table
abbrev pub sub_times : Members → Members
sub_times table = table_read (times_table table)

-- the elements that are to be the tables of routers, from 1 to 64; they must stand
abbrev pub routers : Members → ReadValue (List Data)
routers = array 1 64 (codes "router")

-- the elements that are to be the tables of arcs, at most 4,096; none where they are absent
abbrev pub arcs : Members → ReadValue (List Data)
arcs = array_or_none 4096 (codes "arc")

-- the number of the routers is visited, and then the table of each
abbrev pub routers_visits : Members → Visits
routers_visits table = visit (routers table) ∷ tables_visits router_visits (codes "router") (listed (routers table))

-- the number of the arcs is visited, and then the table of each
abbrev pub arcs_visits : Members → Visits
arcs_visits table = visit (arcs table) ∷ tables_visits arc_visits (codes "arc") (listed (arcs table))

-- it is visited whether the times are a table, and then what stands in it
abbrev pub times_part : Members → Visits
times_part table = inner_visits times_visits (times_table table)

-- the numbers at the top
abbrev pub top_visits : Members → Visits
top_visits table = visit (end_moment table) ∷ visit (seed table) ∷ visit (loss_until table) ∷ []

-- the top table says these numbers: the end and the end of losses, both in ticks, and the seed
pub record AreTopNumbers (table : Members) (numbers : ScenarioNumbers) : Type 0 where
  pub is_end : end_moment table ≡ Ok numbers.end
  pub is_seed : seed table ≡ Ok numbers.seed
  pub is_loss_until : loss_until table ≡ Ok numbers.loss_until

-- the visits of the top table of a scenario: its numbers, the times, the routers and the arcs
abbrev pub scenario_table_visits : Members → Visits
scenario_table_visits table =
    table_visits (codes "end_ms" ∷ codes "seed" ∷ codes "loss_until_ms" ∷ codes "times" ∷ codes "router" ∷ codes "arc" ∷ []) table
    (first (top_visits table) ∷ first (times_part table) ∷ first (routers_visits table) ∷ first (arcs_visits table) ∷ [])

-- the stated scenario is what the top table and the tables in it say
pub record ScenarioIs (table : Members) (scenario : StatedScenario) : Type 0 where
  pub are_numbers : AreTopNumbers table scenario.numbers
  pub are_times : TimesIs (sub_times table) scenario.times
  pub are_routers : Each RouterIs (listed (routers table)) scenario.routers
  pub are_arcs : Each ArcIs (listed (arcs table)) scenario.arcs
