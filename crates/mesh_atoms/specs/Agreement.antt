-- Words that say one thing in two ways agree.
use Rattle.std.specs.Prelude.{◌≡◌, ℕ, ◌≢◌, ◌↔◌, Some, true}
use Rattle.mesh_atoms.specs.declared.addr.Addr4.{Addr4}
use Rattle.mesh_atoms.specs.declared.tuples.LinkKey.{LinkKey}
use Rattle.mesh_atoms.specs.declared.tuples.TwoHopKey.{TwoHopKey}
use Rattle.mesh_atoms.specs.declared.tuples.RouterKey.{RouterKey}
use Rattle.mesh_atoms.specs.declared.tuples.AddressKey.{AddressKey}
use Rattle.mesh_atoms.specs.declared.tuples.NetworkKey.{NetworkKey}
use Rattle.mesh_atoms.specs.declared.tuples.Link.{Link}
use Rattle.mesh_atoms.specs.declared.tuples.TwoHop.{TwoHop}
use Rattle.mesh_atoms.specs.declared.tuples.Neighbour.{Neighbour}
use Rattle.mesh_atoms.specs.declared.tuples.Lost.{Lost}
use Rattle.mesh_atoms.specs.declared.tuples.Advertiser.{Advertiser}
use Rattle.mesh_atoms.specs.declared.tuples.RouterTuple.{RouterTuple}
use Rattle.mesh_atoms.specs.declared.tuples.AddressTuple.{AddressTuple}
use Rattle.mesh_atoms.specs.declared.tuples.NetworkTuple.{NetworkTuple}
use Rattle.mesh_atoms.specs.Base.{Has, HasDistinctKeys, find, base_of, addr_eq, link_eq, two_hop_eq, router_eq, address_eq, network_eq}
use Rattle.mesh_atoms.specs.declared.tuples.LinkState.TheVariants.{Pending as Is_pending, Symmetric as Is_symmetric, Heard as Is_heard}
use Rattle.mesh_atoms.specs.State.{State, state_of, is_symmetric, is_heard, link_at, two_hop_at, neighbour_at, lost_at, HasLink, HasTwoHop, status_of, link_state}

-- the test is whether the status is SYMMETRIC
abbrev pub TestsSymmetric : Type 0
TestsSymmetric = (link : Link) (now : ℕ) → (is_symmetric link now ≡ true) ↔ (state_of link now ≡ Is_symmetric)

-- the test is whether the status is HEARD
abbrev pub TestsHeard : Type 0
TestsHeard = (link : Link) (now : ℕ) → (is_heard link now ≡ true) ↔ (state_of link now ≡ Is_heard)

-- what a HELLO shows of a link that isn't PENDING is its status
abbrev pub ShowsStatus : Type 0
ShowsStatus = (link : Link) (now : ℕ) → state_of link now ≢ Is_pending → link_state (status_of link now) ≡ state_of link now

-- where keys are distinct, a link stands exactly where it is looked up
abbrev pub LooksUpLinks : Type 0
LooksUpLinks =
    (s : State) (i : ℕ) (key : LinkKey) (link : Link) → HasDistinctKeys link_eq (base_of s.bases.neighbourhood.links i) →
    HasLink s i key link ↔ ((until : ℕ) × (link_at s.bases.neighbourhood i key ≡ Some (link, until)))

-- and a 2-hop tuple
abbrev pub LooksUpTwoHops : Type 0
LooksUpTwoHops =
    (s : State) (i : ℕ) (key : TwoHopKey) (t : TwoHop) → HasDistinctKeys two_hop_eq (base_of s.bases.neighbourhood.two_hops i) →
    HasTwoHop s i key t ↔ ((until : ℕ) × (two_hop_at s.bases.neighbourhood i key ≡ Some (t, until)))

-- and a neighbour
abbrev pub LooksUpNeighbours : Type 0
LooksUpNeighbours =
    (s : State) (originator : Addr4) (n : Neighbour) → HasDistinctKeys addr_eq s.bases.neighbourhood.neighbours →
    Has s.bases.neighbourhood.neighbours originator n ↔ ((until : ℕ) × (neighbour_at s.bases.neighbourhood originator ≡ Some (n, until)))

-- and a lost address
abbrev pub LooksUpLosts : Type 0
LooksUpLosts =
    (s : State) (a : Addr4) (lost : Lost) → HasDistinctKeys addr_eq s.bases.neighbourhood.losts →
    Has s.bases.neighbourhood.losts a lost ↔ ((until : ℕ) × (lost_at s.bases.neighbourhood a ≡ Some (lost, until)))

-- and an advertising router
abbrev pub LooksUpAdvertisers : Type 0
LooksUpAdvertisers =
    (s : State) (o : Addr4) (t : Advertiser) → HasDistinctKeys addr_eq s.bases.topology.advertisers →
    Has s.bases.topology.advertisers o t ↔ ((until : ℕ) × (find addr_eq s.bases.topology.advertisers o ≡ Some (t, until)))

-- and a router tuple
abbrev pub LooksUpRouters : Type 0
LooksUpRouters =
    (s : State) (key : RouterKey) (t : RouterTuple) → HasDistinctKeys router_eq s.bases.topology.routers →
    Has s.bases.topology.routers key t ↔ ((until : ℕ) × (find router_eq s.bases.topology.routers key ≡ Some (t, until)))

-- and an address tuple
abbrev pub LooksUpAddresses : Type 0
LooksUpAddresses =
    (s : State) (key : AddressKey) (t : AddressTuple) → HasDistinctKeys address_eq s.bases.topology.addresses →
    Has s.bases.topology.addresses key t ↔ ((until : ℕ) × (find address_eq s.bases.topology.addresses key ≡ Some (t, until)))

-- and a network tuple
abbrev pub LooksUpNetworks : Type 0
LooksUpNetworks =
    (s : State) (key : NetworkKey) (t : NetworkTuple) → HasDistinctKeys network_eq s.bases.topology.networks →
    Has s.bases.topology.networks key t ↔ ((until : ℕ) × (find network_eq s.bases.topology.networks key ≡ Some (t, until)))
