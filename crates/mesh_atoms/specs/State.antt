-- What a router holds, and what a router is at a moment.
use Rattle.std.specs.Prelude.{◌≡◌, ℕ, List, Contains, Option, Some, slice_get, IsTrue, cond, nat_lt, Bool, false, not, ◌&&◌}
use Rattle.mesh_atoms.specs.declared.addr.Addr4.{Addr4}
use Rattle.mesh_atoms.specs.declared.hello.LinkStatus.{LinkStatus}
use Rattle.mesh_atoms.specs.declared.hello.LinkStatus.TheVariants.{Lost as Down, Symmetric, Heard}
use Rattle.mesh_atoms.specs.declared.tuples.LinkKey.{LinkKey}
use Rattle.mesh_atoms.specs.declared.tuples.LinkState.{LinkState}
use Rattle.mesh_atoms.specs.declared.tuples.LinkState.TheVariants.{Pending as Is_pending, Lost as Is_lost, Symmetric as Is_symmetric, Heard as Is_heard}
use Rattle.mesh_atoms.specs.declared.tuples.TwoHopKey.{TwoHopKey}
use Rattle.mesh_atoms.specs.declared.tuples.RouterKey.{RouterKey}
use Rattle.mesh_atoms.specs.declared.tuples.AddressKey.{AddressKey}
use Rattle.mesh_atoms.specs.declared.tuples.NetworkKey.{NetworkKey}
use Rattle.mesh_atoms.specs.declared.tuples.FloodKey.{FloodKey}
use Rattle.mesh_atoms.specs.declared.tuples.Link.{Link}
use Rattle.mesh_atoms.specs.declared.tuples.TwoHop.{TwoHop}
use Rattle.mesh_atoms.specs.declared.tuples.Neighbour.{Neighbour}
use Rattle.mesh_atoms.specs.declared.tuples.Lost.{Lost}
use Rattle.mesh_atoms.specs.declared.tuples.Advertiser.{Advertiser}
use Rattle.mesh_atoms.specs.declared.tuples.RouterTuple.{RouterTuple}
use Rattle.mesh_atoms.specs.declared.tuples.AddressTuple.{AddressTuple}
use Rattle.mesh_atoms.specs.declared.tuples.NetworkTuple.{NetworkTuple}
use Rattle.mesh_atoms.specs.declared.tuples.Noted.{Noted}
use Rattle.mesh_atoms.specs.declared.tuples.Relays.{Relays}
use Rattle.mesh_atoms.specs.declared.settings.RouterSettings.{RouterSettings}
use Rattle.mesh_atoms.specs.declared.settings.Interface.{Interface}
use Rattle.mesh_atoms.specs.declared.graphs.Route.{Route}
use Rattle.mesh_atoms.specs.declared.tc.TcRow.{TcRow}
use Rattle.mesh_atoms.specs.Base.{Base, Has, find, base_of, link_eq, two_hop_eq, addr_eq}

-- The information bases

-- the neighbourhood (RFC 6130, sections 7 and 8): links and 2-hop tuples of each interface, neighbours, lost addresses
pub record Neighbourhood : Type 0 where
  pub links : List (Base LinkKey Link)
  pub two_hops : List (Base TwoHopKey TwoHop)
  pub neighbours : Base Addr4 Neighbour
  pub losts : Base Addr4 Lost

-- the topology (RFC 7181, section 10): who advertises, and what
pub record TopologyBase : Type 0 where
  pub advertisers : Base Addr4 Advertiser
  pub routers : Base RouterKey RouterTuple
  pub addresses : Base AddressKey AddressTuple
  pub networks : Base NetworkKey NetworkTuple

-- the messages seen before (RFC 7181, section 11): received on each interface, processed, forwarded
pub record NotedMessages : Type 0 where
  pub received : List (Base FloodKey Noted)
  pub processed : Base FloodKey Noted
  pub forwarded : Base FloodKey Noted

-- all bases of a router
pub record Bases : Type 0 where
  pub neighbourhood : Neighbourhood
  pub topology : TopologyBase
  pub noted : NotedMessages

-- a router at a moment
pub record State : Type 0 where
  pub settings : RouterSettings
  pub bases : Bases
  pub relays : Relays
  pub routes : List Route
  pub rows : List TcRow  -- the rows that it advertises
  pub ansn : ℕ
  pub emptied : Option ℕ  -- the moment at which the rows last became empty
  pub sequence : ℕ  -- of the next TC
  pub next_hello : ℕ
  pub next_tc : ℕ
  pub last : ℕ  -- the moment of the last event

-- What a link is at a moment

-- PENDING and lost come before what is heard; a moment counts where it is later than now (RFC 6130, section 7.1)
abbrev pub state_of : Link → ℕ → LinkState
state_of link now =
    cond link.pending Is_pending
    (cond link.lost Is_lost
    (cond (nat_lt now link.sym) Is_symmetric
    (cond (nat_lt now link.heard) Is_heard Is_lost)))

-- whether the status is SYMMETRIC
abbrev pub is_symmetric : Link → ℕ → Bool
is_symmetric link now = cond link.pending false (cond link.lost false (nat_lt now link.sym))

-- whether the status is HEARD
abbrev pub is_heard : Link → ℕ → Bool
is_heard link now = not link.pending && (not link.lost && (not (nat_lt now link.sym) && nat_lt now link.heard))

-- what a HELLO shows of a link that isn't PENDING
abbrev pub status_of : Link → ℕ → LinkStatus
status_of link now = cond (is_symmetric link now) Symmetric (cond (is_heard link now) Heard Down)

-- the status that a HELLO shows so
abbrev pub link_state : LinkStatus → LinkState
link_state Down = Is_lost
link_state Symmetric = Is_symmetric
link_state Heard = Is_heard

-- A tuple and its moment, by look-up

-- the link of interface i with that key
abbrev pub link_at : Neighbourhood → ℕ → LinkKey → Option (Link × ℕ)
link_at near i key = find link_eq (base_of near.links i) key

-- the 2-hop tuple of interface i with that key
abbrev pub two_hop_at : Neighbourhood → ℕ → TwoHopKey → Option (TwoHop × ℕ)
two_hop_at near i key = find two_hop_eq (base_of near.two_hops i) key

-- the neighbour with that originator
abbrev pub neighbour_at : Neighbourhood → Addr4 → Option (Neighbour × ℕ)
neighbour_at near originator = find addr_eq near.neighbours originator

-- the lost tuple of that address
abbrev pub lost_at : Neighbourhood → Addr4 → Option (Lost × ℕ)
lost_at near a = find addr_eq near.losts a

-- A tuple by membership

-- the link of interface i with that key
abbrev pub HasLink : State → ℕ → LinkKey → Link → Type 0
HasLink s i key link = (base : Base LinkKey Link) × (slice_get s.bases.neighbourhood.links i ≡ Some base) × Has base key link

-- the 2-hop tuple of interface i with that key
abbrev pub HasTwoHop : State → ℕ → TwoHopKey → TwoHop → Type 0
HasTwoHop s i key tuple = (base : Base TwoHopKey TwoHop) × (slice_get s.bases.neighbourhood.two_hops i ≡ Some base) × Has base key tuple

-- the symmetric neighbour with that originator
abbrev pub HasSymmetric : State → Addr4 → Neighbour → Type 0
HasSymmetric s originator neighbour = Has s.bases.neighbourhood.neighbours originator neighbour × IsTrue neighbour.symmetric

-- the symmetric neighbour with that originator, which has that address
abbrev pub HasSymmetricWith : State → Addr4 → Addr4 → Neighbour → Type 0
HasSymmetricWith s a originator neighbour = HasSymmetric s originator neighbour × Contains neighbour.addrs a

-- The router's own addresses

-- an address of interface i
abbrev pub HasAddressOn : RouterSettings → ℕ → Addr4 → Type 0
HasAddressOn r i a = (iface : Interface) × (slice_get r.interfaces i ≡ Some iface) × Contains iface.addrs a

-- an address of some interface
abbrev pub HasAddress : RouterSettings → Addr4 → Type 0
HasAddress r a = (i : ℕ) × HasAddressOn r i a

-- the router's originator address: the first address of its first interface
abbrev pub IsOriginator : RouterSettings → Addr4 → Type 0
IsOriginator r a = (iface : Interface) × (slice_get r.interfaces 0 ≡ Some iface) × (slice_get iface.addrs 0 ≡ Some a)
