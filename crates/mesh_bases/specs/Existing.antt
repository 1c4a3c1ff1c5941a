-- That a router has relays.
use Rattle.std.specs.Prelude.{ℕ}
use Rattle.mesh_atoms.specs.declared.tuples.Relays.{Relays}
use Rattle.mesh_atoms.specs.RelayGraphs.{AreRelays}
use Rattle.mesh_atoms.specs.Sound.{SoundNeighbourhood}
use Rattle.mesh_atoms.specs.State.{State}

-- a router with a sound neighbourhood at a moment has relays then
abbrev pub RoutersHaveRelays : Type 0
RoutersHaveRelays =
    (s : State) (now : ℕ) → SoundNeighbourhood s.settings now s.bases.neighbourhood →
    (relays : Relays) × AreRelays (record s { relays = relays }) now
