-- States of which relays and routes may be outdated.
use Rattle.std.specs.Prelude.{◌≡◌, false, IsTrue}
use Rattle.mesh_atoms.specs.declared.addr.Addr4.{Addr4}
use Rattle.mesh_atoms.specs.RelayGraphs.{AreRelays}
use Rattle.mesh_atoms.specs.Routes.{AreRoutes}
use Rattle.mesh_atoms.specs.State.{State}
use Rattle.mesh_core.specs.declared.event.outdated.Outdated.{Outdated}
use Rattle.mesh_core.specs.declared.event.outdated.EventWants.{EventWants}
use Rattle.mesh_core.specs.Deferred.{IsButForDerived}

-- relays and routes are those of the bases at the last event, where they aren't outdated
pub record IsCurrent (outdated : Outdated) (s : State) : Type 0 where
  pub relays : outdated.relays ≡ false → AreRelays s s.last
  pub routes : outdated.routes ≡ false → (self : Addr4) × AreRoutes s s.last self

-- what is kept of a state, where so much was wanted
pub record IsKeptFor (wants : EventWants) (whole rest : State) : Type 0 where
  pub same : IsButForDerived whole rest
  pub relays : IsTrue wants.relays → whole.relays ≡ rest.relays
  pub routes : IsTrue wants.routes → whole.routes ≡ rest.routes

-- of a state to which an event may lead, a router has what was wanted; no more of it is outdated than is said
pub record KeepsWanted (LeadsTo : State → Type 0) (wants : EventWants) (outdated : Outdated) (new : State) : Type 0 where
  pub whole : State
  pub leads : LeadsTo whole
  pub rest : IsKeptFor wants whole new
  pub current : IsCurrent outdated new
