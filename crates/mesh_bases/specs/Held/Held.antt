-- What a router holds.
use Rattle.mesh_atoms.specs.declared.settings.RouterSettings.{RouterSettings}
use Rattle.mesh_atoms.specs.State.{Bases}

-- the settings of a router, and its bases
pub record Held : Type 0 where
  pub settings : RouterSettings
  pub bases : Bases
