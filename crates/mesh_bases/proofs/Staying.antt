-- What followed from the bases of a router at its last event still follows at a later moment, part by part: relays and advertised rows where the
-- neighbourhood is the same but for moments, and routes where others advertise the same too.
use Rattle.mesh_bases.proofs.Common.{◌≡◌, ℕ, refl, sym, ap, subst, List, length, [], Addr4, RouterSettings, TcRow, LinkKey, Metric, Neighbour, AreTcRows, HasTables, AreRelays, SoundNeighbourhood, SoundTopology, State, TopologyBase, SameNear, SameAdvertised, SameWays, SameTwoHops, routes_stay}
use Rattle.mesh_atoms.specs.Routes.{AreRoutes, IsWayTo}
use Rattle.mesh_routes.proofs.SameBases.{bases_give_same}
use Rattle.mesh_machine.proofs.topo.Soundness.{none_sound}
use Rattle.mesh_bases.proofs.Moments.{relays_stay}
use Rattle.mesh_bases.proofs.RowMoments.{rows_stay}

-- The neighbourhood alone: the topology is left out

abbrev no_topology : TopologyBase
no_topology = record { advertisers = []; routers = []; addresses = []; networks = [] }

-- the router as one that has heard of no topology
abbrev without_topology : State → State
without_topology s = record s { bases = record s.bases { topology = no_topology } }

way_to : (s : State) (now : ℕ) (n : Neighbour) (i : ℕ) (key : LinkKey) (m : Metric) → IsWayTo (without_topology s) now n i key m → IsWayTo s now n i key m
way_to s now n i key m way = record { link = way.link; stands = way.stands; state = way.state; of_it = way.of_it; out = way.out }

way_back : (s : State) (now : ℕ) (n : Neighbour) (i : ℕ) (key : LinkKey) (m : Metric) → IsWayTo s now n i key m → IsWayTo (without_topology s) now n i key m
way_back s now n i key m way = record { link = way.link; stands = way.stands; state = way.state; of_it = way.of_it; out = way.out }

-- the same neighbourhood but for moments has the same neighbours, ways and 2-hop tuples
pub near_gives_same : (s t : State) (now later : ℕ) → SoundNeighbourhood s.settings now s.bases.neighbourhood → HasTables t.bases.neighbourhood → t.settings ≡ s.settings →
    SameNear s.bases.neighbourhood now t.bases.neighbourhood later → SameWays s now t later × SameTwoHops s t
near_gives_same s t now later sound tables settings same =
    let none : (r : RouterSettings) (moment : ℕ) → SoundTopology r moment no_topology = none_sound no_topology refl refl refl refl in
    let advertised : SameAdvertised no_topology no_topology = record { routers = λ q. refl; addresses = λ q. refl; networks = λ q. refl } in
    let (own, arcs, ways, two_hops) = bases_give_same (without_topology s) (without_topology t) now later sound tables (none s.settings now) (none t.settings later) settings same advertised in (
      record {
        neighbours = λ o n. ways.neighbours o n;
        ways = λ n i key m. (
          λ way. way_to t later n i key m ((ways.ways n i key m).0 (way_back s now n i key m way)),
          λ way. way_to s now n i key m ((ways.ways n i key m).1 (way_back t later n i key m way)),
        );
      },
      λ i key x. two_hops i key x,
    )

-- The three parts

-- the relays of the last event are relays at now
pub relays_kept : (old new : State) (now : ℕ) → SoundNeighbourhood old.settings old.last old.bases.neighbourhood → HasTables new.bases.neighbourhood → new.settings ≡ old.settings →
    SameNear old.bases.neighbourhood old.last new.bases.neighbourhood now → new.relays ≡ old.relays → AreRelays old old.last → AreRelays new now
relays_kept old new now sound tables settings same relays are =
    let (ways, two_hops) = near_gives_same old new old.last now sound tables settings same in relays_stay ways two_hops (ap (λ (r : RouterSettings). length r.interfaces) settings) relays are

-- the rows of the last event are those that the router advertises
pub rows_kept : (old new : State) (now : ℕ) → SoundNeighbourhood old.settings old.last old.bases.neighbourhood → HasTables new.bases.neighbourhood → new.settings ≡ old.settings →
    SameNear old.bases.neighbourhood old.last new.bases.neighbourhood now → new.rows ≡ old.rows → AreTcRows old old.rows → AreTcRows new new.rows
rows_kept old new now sound tables settings same rows are =
    let (ways, two_hops) = near_gives_same old new old.last now sound tables settings same in
    rows_stay old new ways.neighbours (ap (λ (r : RouterSettings). r.attached) settings) new.rows (subst (λ (l : List TcRow). AreTcRows old l) (sym rows) are)

-- the routes of the last event are the routes at now
pub routes_kept : (old new : State) (now : ℕ) (self : Addr4) → SoundNeighbourhood old.settings old.last old.bases.neighbourhood → HasTables new.bases.neighbourhood →
    SoundTopology old.settings old.last old.bases.topology → SoundTopology new.settings now new.bases.topology → new.settings ≡ old.settings →
    SameNear old.bases.neighbourhood old.last new.bases.neighbourhood now → SameAdvertised old.bases.topology new.bases.topology → new.routes ≡ old.routes →
    AreRoutes old old.last self → AreRoutes new now self
routes_kept old new now self sound tables topology topology_new settings same advertised routes are =
    let (own, arcs, ways, two_hops) = bases_give_same old new old.last now sound tables topology topology_new settings same advertised in
    routes_stay old new old.last now self own arcs ways routes are
