-- What follows from the limits of a neighbourhood.
use Rattle.std.specs.Prelude.{ℕ, ◌≤◌, List, length}
use Rattle.mesh_atoms.specs.declared.tc.TcRow.{TcRow}
use Rattle.mesh_atoms.specs.declared.limits.TheConstants.{MOST_TC_ROWS}
use Rattle.mesh_atoms.specs.Advertised.{AreTcRows}
use Rattle.mesh_atoms.specs.Sound.{SoundNeighbourhood}
use Rattle.mesh_atoms.specs.State.{State}

-- a router with a sound neighbourhood advertises at most 1,088 rows: of the addresses and originators that it holds, which are 1,024
-- at most, and of the networks that it attaches, which are 64 at most
abbrev pub AdvertisesFew : Type 0
AdvertisesFew = (s : State) (now : ℕ) (rows : List TcRow)
    → SoundNeighbourhood s.settings now s.bases.neighbourhood → AreTcRows s rows → length rows ≤ MOST_TC_ROWS
