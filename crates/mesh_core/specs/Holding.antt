-- What the core holds.
use Rattle.std.specs.Prelude.{Bool}
use Rattle.mesh_atoms.specs.State.{State}

-- a core: the state of its router, and whether it has met an allocation failure
pub record CoreValue : Type 0 where
  pub state : State
  pub is_spent : Bool
