-- How an event ends, where relays and routes that aren't wanted may be left outdated.
use Rattle.std.specs.Prelude.{◌≡◌, ℕ, List, IsTrue}
use Rattle.mesh_atoms.specs.declared.addr.Addr4.{Addr4}
use Rattle.mesh_atoms.specs.declared.graphs.Route.{Route}
use Rattle.mesh_atoms.specs.declared.settings.RouterSettings.{RouterSettings}
use Rattle.mesh_atoms.specs.declared.tc.TcRow.{TcRow}
use Rattle.mesh_atoms.specs.declared.tuples.Relays.{Relays}
use Rattle.mesh_atoms.specs.Advertised.{AreTcRows}
use Rattle.mesh_atoms.specs.RelayGraphs.{AreRelays}
use Rattle.mesh_atoms.specs.Routes.{AreRoutes}
use Rattle.mesh_atoms.specs.Sound.{SoundNeighbourhood}
use Rattle.mesh_atoms.specs.State.{Bases, Neighbourhood, State}
use Rattle.mesh_core.specs.declared.event.outdated.Outdated.{Outdated}
use Rattle.mesh_bases.specs.declared.held.quiet.Quiet.{Quiet}
use Rattle.mesh_core.specs.Deferred.{IsSoundButForDerived}
use Rattle.mesh_core.specs.Event.Outdated.{IsCurrent}
use Rattle.mesh_bases.specs.Held.Held.{Held}
use Rattle.mesh_nbrs.specs.Same.{SameNear}
use Rattle.mesh_bases.specs.declared.derived.Derived.{Derived}
use Rattle.mesh_bases.specs.Renewed.{HasDerived}
use Rattle.mesh_topo.specs.Same.{SameAdvertised}

-- these are the relays of each router with these settings and this neighbourhood, at each moment at which that is sound
abbrev pub GivesRelays : RouterSettings → Neighbourhood → Relays → Type 0
GivesRelays settings near relays =
    (s : State) (now : ℕ) → s.settings ≡ settings → s.bases.neighbourhood ≡ near → s.relays ≡ relays → SoundNeighbourhood settings now near →
    AreRelays s now

-- these are the rows that each router with these settings and this neighbourhood advertises
abbrev pub GivesRows : RouterSettings → Neighbourhood → List TcRow → Type 0
GivesRows settings near rows = (s : State) → s.settings ≡ settings → s.bases.neighbourhood ≡ near → AreTcRows s rows

-- these are the routes of each router with these settings and bases, at each moment at which its neighbourhood is sound
abbrev pub GivesRoutes : RouterSettings → Bases → List Route → Type 0
GivesRoutes settings bases routes =
    (s : State) (now : ℕ) → s.settings ≡ settings → s.bases.neighbourhood ≡ bases.neighbourhood → s.bases.topology ≡ bases.topology → s.routes ≡ routes →
    SoundNeighbourhood settings now bases.neighbourhood → (self : Addr4) × AreRoutes s now self

-- an event that leaves these bases at now began with this state: with these relays, routes and rows, of which so much was outdated. It has left
-- as it was what `quiet` says
pub record IsBeforeEvent (outdated : Outdated) (derived : Derived) (quiet : Quiet) (held : Held) (now : ℕ) (before : State) : Type 0 where
  pub has : HasDerived before derived
  pub sound : IsSoundButForDerived before
  pub current : IsCurrent outdated before
  pub settings : held.settings ≡ before.settings
  pub near : IsTrue quiet.near → SameNear before.bases.neighbourhood before.last held.bases.neighbourhood now
  pub advertised : IsTrue quiet.advertised → SameAdvertised before.bases.topology held.bases.topology
