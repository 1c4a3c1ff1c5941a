-- States that the definitions of a router refuse, by what is wrong with them.
use Rattle.std.specs.Prelude.{◌≡◌, ◌≢◌, ℕ, ◌<◌, ◌≤◌, List, Contains, Some, None, slice_get, IsTrue, true, false}
use Rattle.mesh_atoms.specs.declared.addr.Addr4.{Addr4}
use Rattle.mesh_atoms.specs.declared.addr.NetAddr.{NetAddr}
use Rattle.mesh_atoms.specs.declared.codes.metric.Metric.{Metric}
use Rattle.mesh_atoms.specs.declared.hello.Hello.{Hello}
use Rattle.mesh_atoms.specs.declared.hello.HelloRow.{HelloRow}
use Rattle.mesh_atoms.specs.declared.hello.LinkStatus.{LinkStatus}
use Rattle.mesh_atoms.specs.declared.tc.Tc.{Tc}
use Rattle.mesh_atoms.specs.declared.tc.TcRow.{TcRow}
use Rattle.mesh_atoms.specs.declared.tuples.LinkKey.{LinkKey}
use Rattle.mesh_atoms.specs.declared.tuples.LinkState.TheVariants.{Pending as Is_pending}
use Rattle.mesh_atoms.specs.declared.tuples.TwoHopKey.{TwoHopKey}
use Rattle.mesh_atoms.specs.declared.tuples.AddressKey.{AddressKey}
use Rattle.mesh_atoms.specs.declared.tuples.Link.{Link}
use Rattle.mesh_atoms.specs.declared.tuples.TwoHop.{TwoHop}
use Rattle.mesh_atoms.specs.declared.tuples.Neighbour.{Neighbour}
use Rattle.mesh_atoms.specs.declared.tuples.AddressTuple.{AddressTuple}
use Rattle.mesh_atoms.specs.declared.graphs.Far.{Far}
use Rattle.mesh_atoms.specs.declared.graphs.NeighbourGraph.{NeighbourGraph}
use Rattle.mesh_atoms.specs.declared.graphs.Route.{Route}
use Rattle.mesh_atoms.specs.declared.settings.RouterSettings.{RouterSettings}
use Rattle.mesh_atoms.specs.declared.settings.Scenario.{Scenario}
use Rattle.mesh_atoms.specs.Advertised.{GivesAsSelector, Advertises, AreTcRows}
use Rattle.mesh_atoms.specs.AfterHello.{AfterHello}
use Rattle.mesh_atoms.specs.AfterTc.{AfterTc}
use Rattle.mesh_atoms.specs.Base.{Has, find, host, address_eq}
use Rattle.mesh_atoms.specs.Hello.{IsHelloNow}
use Rattle.mesh_atoms.specs.HelloTold.{Told, LooksAt}
use Rattle.mesh_atoms.specs.Live.{HasLinkOf, is_symmetric_at, LiveNeighbourhood}
use Rattle.mesh_atoms.specs.Nodes.{IsBefore}
use Rattle.mesh_atoms.specs.Relays.{Offers, IsWilling, IsRelay, Covers}
use Rattle.mesh_atoms.specs.Routes.{RouteArc, AreRoutes}
use Rattle.mesh_atoms.specs.Settled.{IsPeer, IsStray, IsSettledAt}
use Rattle.mesh_atoms.specs.Sound.{SoundNeighbourhood}
use Rattle.mesh_atoms.specs.State.{State, Neighbourhood, TopologyBase, state_of, link_at, two_hop_at, neighbour_at, HasLink, HasSymmetricWith, HasAddress, IsOriginator}
use Rattle.mesh_atoms.specs.Walk.{Fits}

-- Expiry, HELLOs and TCs

-- after expiry, a link whose moment is at or below now
abbrev pub RefusesExpiredLink : Type 0
RefusesExpiredLink =
    (settings : RouterSettings) (now : ℕ) (old new : Neighbourhood) (i : ℕ) (key : LinkKey) (link : Link) (until : ℕ) (e : Link × ℕ) →
    link_at old i key ≡ Some (link, until) → until ≤ now → link_at new i key ≡ Some e → LiveNeighbourhood settings now old new → ⊥

-- after a HELLO, a new 2-hop tuple of one of the receiver's own addresses
abbrev pub RefusesOwnTwoHop : Type 0
RefusesOwnTwoHop =
    (settings : RouterSettings) (now i : ℕ) (told : Told) (hello : Hello) (old new : Neighbourhood) (a : Addr4) (t : TwoHop × ℕ) →
    HasAddress settings a → two_hop_at old i (record { link = told.least; addr = a }) ≡ None →
    two_hop_at new i (record { link = told.least; addr = a }) ≡ Some t → AfterHello settings now i told hello old new → ⊥

-- after a HELLO that makes its link anew, since the link with its key had other addresses, a 2-hop tuple of which no row tells
abbrev pub RefusesTwoHopOfEndedLink : Type 0
RefusesTwoHopOfEndedLink =
    (settings : RouterSettings) (now i : ℕ) (told : Told) (hello : Hello) (old new : Neighbourhood) (e : Link × ℕ) (a : Addr4) (t : TwoHop × ℕ) →
    link_at old i told.least ≡ Some e → e.0.addrs ≢ told.shown.sending → ((row : HelloRow) → LooksAt settings told hello a row → ⊥) →
    two_hop_at new i (record { link = told.least; addr = a }) ≡ Some t → AfterHello settings now i told hello old new → ⊥

-- after a complete TC, a tuple of its originator with another number
abbrev pub RefusesTupleOfOldNumber : Type 0
RefusesTupleOfOldNumber =
    (now : ℕ) (tc : Tc) (old new : TopologyBase) (key : AddressKey) (t : AddressTuple) (until : ℕ) →
    tc.complete ≡ true → key.from ≡ tc.originator → find address_eq new.addresses key ≡ Some (t, until) → t.ansn ≢ tc.ansn → AfterTc now tc old new → ⊥

-- a HELLO with no row of a symmetric neighbour's address
abbrev pub RefusesHiddenNeighbour : Type 0
RefusesHiddenNeighbour =
    (s : State) (i now : ℕ) (hello : Hello) (a o : Addr4) (n : Neighbour) →
    HasSymmetricWith s a o n → ((row : HelloRow) → Contains hello.rows row → row.addr ≢ host a) → IsHelloNow s i now hello → ⊥

-- an advertised row of an address that no selector gives
abbrev pub RefusesRowOfNoSelector : Type 0
RefusesRowOfNoSelector =
    (s : State) (rows : List TcRow) (row : TcRow) (a : Addr4) →
    Contains rows row → row.dest ≡ host a → IsTrue row.routable → ((o : Addr4) (m : Metric) → GivesAsSelector s a o m → ⊥) → AreTcRows s rows → ⊥

-- a HELLO that tells a link status of an address whose links on its interface are all PENDING
abbrev pub RefusesPendingTold : Type 0
RefusesPendingTold =
    (s : State) (i now : ℕ) (hello : Hello) (row : HelloRow) (a : Addr4) (status : LinkStatus) →
    ((key : LinkKey) (link : Link) → HasLink s i key link → Contains link.addrs a → state_of link now ≡ Is_pending) →
    Contains hello.rows row → row.addr ≡ host a → row.link ≡ Some status → IsHelloNow s i now hello → ⊥

-- Sound routers

-- a 2-hop tuple on a link that isn't SYMMETRIC
abbrev pub RefusesTwoHopOnHeardLink : Type 0
RefusesTwoHopOnHeardLink =
    (settings : RouterSettings) (now : ℕ) (near : Neighbourhood) (i : ℕ) (key : TwoHopKey) (t : TwoHop × ℕ) →
    two_hop_at near i key ≡ Some t → is_symmetric_at near now i key.link ≡ false → SoundNeighbourhood settings now near → ⊥

-- a neighbour without a link
abbrev pub RefusesNeighbourWithoutLink : Type 0
RefusesNeighbourWithoutLink =
    (settings : RouterSettings) (now : ℕ) (near : Neighbourhood) (o : Addr4) (n : Neighbour) (until : ℕ) →
    neighbour_at near o ≡ Some (n, until) → ((i : ℕ) (key : LinkKey) (e : Link × ℕ) → HasLinkOf near n.addrs i key e → ⊥) →
    SoundNeighbourhood settings now near → ⊥

-- relays by way of which alone a far address is dearer
abbrev pub RefusesDearerRelays : Type 0
RefusesDearerRelays =
    (g : NeighbourGraph) (relays : List Addr4) (f : Far) (c : ℕ) →
    Contains g.far f → Offers g IsWilling f.addr c → ((e : ℕ) → Offers g (IsRelay relays) f.addr e → c < e) → Covers g relays → ⊥

-- a route whose parent isn't the least node that fits
abbrev pub RefusesGreaterParent : Type 0
RefusesGreaterParent =
    (s : State) (now : ℕ) (self : Addr4) (row : Route) (p : NetAddr) →
    Contains s.routes row → Fits (RouteArc s) (host self) p row.dest → IsBefore p row.parent → AreRoutes s now self → ⊥

-- two routes of one destination
abbrev pub RefusesRouteTwice : Type 0
RefusesRouteTwice =
    (s : State) (now : ℕ) (self : Addr4) (k l : ℕ) (r t : Route) →
    k < l → slice_get s.routes k ≡ Some r → slice_get s.routes l ≡ Some t → r.dest ≡ t.dest → AreRoutes s now self → ⊥

-- Settled networks

-- one topology tuple more than a settled router has, but from a stray router
abbrev pub RefusesTupleTooMany : Type 0
RefusesTupleTooMany =
    (s : Scenario) (states : List State) (now x : ℕ) (p q : State) (key : AddressKey) (t : AddressTuple) →
    IsSettledAt s states now x p → (Has p.bases.topology.addresses key t → ⊥) → Has q.bases.topology.addresses key t → (IsStray s x key.from → ⊥) →
    IsSettledAt s states now x q → ⊥

-- a stale topology tuple, as TCs in parts leave it: no router that is joined and has its originator advertises its address at present
abbrev pub RefusesStaleTuple : Type 0
RefusesStaleTuple =
    (s : Scenario) (states : List State) (now x : ℕ) (p : State) (key : AddressKey) (t : AddressTuple) →
    Has p.bases.topology.addresses key t → (IsStray s x key.from → ⊥) →
    ((w : ℕ) (q : State) (m : Metric) → IsPeer s states x w q → IsOriginator q.settings key.from → Advertises q key.addr m → ⊥) →
    IsSettledAt s states now x p → ⊥
