-- What a router's neighbourhood is to its callers.
use Rattle.std.specs.Prelude.{ℕ, [], replicate}
use Rattle.mesh_atoms.specs.declared.settings.RouterSettings.{RouterSettings}
use Rattle.mesh_atoms.specs.State.{Neighbourhood}

-- the settings of a router, and its neighbourhood
pub record NhdpState : Type 0 where
  pub settings : RouterSettings
  pub near : Neighbourhood

-- no links and no 2-hop tuples on so many interfaces, no neighbour, and none lost
abbrev pub empty_near : ℕ → Neighbourhood
empty_near count = record { links = replicate count []; two_hops = replicate count []; neighbours = []; losts = [] }
