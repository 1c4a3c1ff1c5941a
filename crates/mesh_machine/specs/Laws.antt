-- What every step keeps, and what it sends.
use Rattle.std.specs.Prelude.{ℕ, List, All}
use Rattle.mesh_atoms.specs.declared.settings.RouterSettings.{RouterSettings}
use Rattle.mesh_atoms.specs.Sound.{Sound, SoundNeighbourhood, SoundTopology, SoundNoted}
use Rattle.mesh_atoms.specs.State.{Bases, State}
use Rattle.mesh_machine.specs.declared.frame.Frame.{Frame}
use Rattle.mesh_machine.specs.Machine.{Event, Hear, Tick, Step, Run}
use Rattle.mesh_machine.specs.Sendable.{AreOctets, IsSendable}

-- sound bases at a moment
pub record SoundBases (settings : RouterSettings) (now : ℕ) (bases : Bases) : Type 0 where
  pub neighbourhood : SoundNeighbourhood settings now bases.neighbourhood
  pub topology : SoundTopology settings now bases.topology
  pub noted : SoundNoted settings now bases.noted

-- a step of a sound router leaves a sound router
abbrev pub KeepsSound : Type 0
KeepsSound = (old : State) (event : Event) (sent : List Frame) (new : State) → Sound old → Step old event sent new → Sound new

-- every router is sound, whatever happened to it from its opening state on
abbrev pub RunsAreSound : Type 0
RunsAreSound =
    (settings : RouterSettings) (events : List Event) (sent : List (List Frame)) (new : State) →
    Run settings events sent new → Sound new

-- what is heard is octets; a tick is any
abbrev pub IsOfOctets : Event → Type 0
IsOfOctets (Hear arrival bytes) = AreOctets bytes
IsOfOctets (Tick now) = Unit {0}

-- each frame that a step sends spells a packet, and is sent on one of the router's interfaces
abbrev pub SendsPackets : Type 0
SendsPackets =
    (old : State) (event : Event) (sent : List Frame) (new : State) →
    IsOfOctets event → Step old event sent new → All (IsSendable old.settings) sent
