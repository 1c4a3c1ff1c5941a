-- The qualities of what a sender sends: the tables of an array, each with the moment from which its quality stands.
use Rattle.std.specs.Prelude.{◌≡◌, ℕ, List, ◌∷◌, codes, Ok}
use Rattle.toml.specs.Data.{Data, Members}
use Rattle.mesh_atoms.specs.declared.addr.Addr4.{Addr4}
use Rattle.mesh_atoms.specs.declared.admit.QualityStep.{QualityStep}
use Rattle.mesh_atoms.specs.declared.admit.SenderQuality.{SenderQuality}
use Rattle.mesh_config.specs.Keys.Faults.{ReadValue, Visits, visit, listed, then_turned}
use Rattle.mesh_config.specs.Keys.Values.{required, whole, array_or_none, ticks}
use Rattle.mesh_config.specs.Stated.Tables.{Each, numbered_visits, rising_visits}

-- the moment of a step, up to an hour, in milliseconds
abbrev pub at_ms : Members → ReadValue ℕ
at_ms = required (whole 0 3600000) (codes "at_ms")

-- the quality from that moment on, from 0 to 100; it must stand
abbrev pub quality_value : Members → ReadValue ℕ
quality_value = required (whole 0 100) (codes "value")

-- the visits of a step, whose moment is to be no less than so many milliseconds
abbrev pub step_visits : ℕ → Members → Visits
step_visits = numbered_visits (codes "at_ms") at_ms (codes "value") quality_value

-- the step has the moment, in ticks, and the quality that its table says
pub record StepIs (table : Members) (step : QualityStep) : Type 0 where
  pub is_at : then_turned ticks (at_ms table) ≡ Ok step.at
  pub is_quality : quality_value table ≡ Ok step.quality

-- the array of steps
abbrev pub qualities : Members → ReadValue (List Data)
qualities = array_or_none 16 (codes "quality")

-- the number of the steps is visited, and then the table of each, whose moment is to be later than that before
abbrev pub steps_visits : Members → Visits
steps_visits table = visit (qualities table) ∷ rising_visits step_visits at_ms (codes "quality") 0 (listed (qualities table))

-- the steps are those of the table
abbrev pub StepsAre : Members → List QualityStep → Type 0
StepsAre table steps = Each StepIs (listed (qualities table)) steps

-- a sender with the steps of what it sends
abbrev pub quality_pair : SenderQuality → Addr4 × List QualityStep
quality_pair quality = (quality.sender, quality.steps)
