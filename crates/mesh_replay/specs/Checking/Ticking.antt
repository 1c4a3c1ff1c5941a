-- The tick that is next, where no frame is heard before it.
use Rattle.std.specs.Prelude.{◌≡◌, ℕ, ◌+◌, ◌<◌, ◌≤◌, Bool, None, cond, length}
use Rattle.mesh_atoms.specs.declared.settings.Scenario.{Scenario}
use Rattle.mesh_replay.specs.declared.checking.scene.FirstTick.{FirstTick}
use Rattle.mesh_replay.specs.declared.checking.next.NextEvent.{NextEvent}
use Rattle.mesh_replay.specs.declared.checking.scene.Outcome.{Outcome}
use Rattle.mesh_replay.specs.declared.checking.scene.Outcome.TheVariants.{Fits, Unfit}

-- of the router that is due first, no later than the end, or else the next of the ticks at the end
pub data IsFoundTick (s : Scenario) (due : FirstTick) (last_ticks : ℕ) (next : NextEvent) : Type 0 where
  Due_first : due.moment ≤ s.end → next ≡ record { router = due.router; moment = due.moment; heard = None; last_ticks = last_ticks } →
      IsFoundTick s due last_ticks next
  At_end : s.end < due.moment → last_ticks < length s.routers →
      next ≡ record { router = last_ticks; moment = s.end; heard = None; last_ticks = last_ticks + 1 } →
      IsFoundTick s due last_ticks next

-- no tick is left
abbrev pub HasNoTickLeft : Scenario → FirstTick → ℕ → Type 0
HasNoTickLeft s due last_ticks = (s.end < due.moment) × (length s.routers ≤ last_ticks)

-- what came of an event whose lines fit or not
abbrev pub outcome_of : Bool → Outcome
outcome_of fits = cond fits Fits Unfit
