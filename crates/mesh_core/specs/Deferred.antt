-- What is kept of a router's state where relays and routes may be put off.
use Rattle.std.specs.Prelude.{◌≡◌, ◌≤◌, ℕ}
use Rattle.mesh_atoms.specs.Sound.{Sound}
use Rattle.mesh_atoms.specs.State.{State}

-- two states that differ in relays and routes alone
abbrev pub IsButForDerived : State → State → Type 0
IsButForDerived whole rest = whole ≡ record rest { relays = whole.relays; routes = whole.routes }

-- what is kept of a router's state: from that moment on all of it, and before it all but relays and routes
pub record IsKeptOf (until : ℕ) (whole rest : State) : Type 0 where
  pub same : IsButForDerived whole rest
  pub from_then : until ≤ rest.last → whole ≡ rest

-- with some relays and routes the state is sound
abbrev pub IsSoundButForDerived : State → Type 0
IsSoundButForDerived rest = (whole : State) × Sound whole × IsButForDerived whole rest
