-- An emulated network as it is seen from outside, and the states of its routers.
use Rattle.std.specs.Prelude.{List, Bool, map}
use Rattle.mesh_atoms.specs.State.{State}
use Rattle.mesh_core.specs.Holding.{CoreValue}
use Rattle.mesh_machine.specs.Net.{NetState}

-- an emulated network, and whether it has met an allocation failure
pub record NetValue : Type 0 where
  pub net : NetState
  pub is_spent : Bool

-- the state of each core, in order
abbrev pub states_of : List CoreValue → List State
states_of cores = map (λ c. c.state) cores
