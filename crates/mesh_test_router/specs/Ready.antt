-- A neighbourhood at which calls are made: of an interface at least, and sound at some moment.
use Rattle.std.specs.Prelude.{ℕ, ◌<◌, length}
use Rattle.mesh_atoms.specs.Sound.{SoundNeighbourhood}
use Rattle.mesh_nhdp.specs.NhdpState.{NhdpState}

pub record IsReady (nhdp : NhdpState) : Type 0 where
  pub some : 0 < length nhdp.settings.interfaces
  pub moment : ℕ
  pub sound : SoundNeighbourhood nhdp.settings moment nhdp.near
