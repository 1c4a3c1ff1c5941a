-- What holds of a router after every event.
use Rattle.std.specs.Prelude.{◌≡◌, ℕ, ◌≤◌, Contains, Some, None, slice_get, length, IsTrue, Bool, true, false}
use Rattle.mesh_atoms.specs.declared.addr.Addr4.{Addr4}
use Rattle.mesh_atoms.specs.declared.limits.TheConstants.{MOST_TUPLES}
use Rattle.mesh_atoms.specs.declared.tuples.LinkKey.{LinkKey}
use Rattle.mesh_atoms.specs.declared.tuples.TwoHopKey.{TwoHopKey}
use Rattle.mesh_atoms.specs.declared.tuples.RouterKey.{RouterKey}
use Rattle.mesh_atoms.specs.declared.tuples.AddressKey.{AddressKey}
use Rattle.mesh_atoms.specs.declared.tuples.NetworkKey.{NetworkKey}
use Rattle.mesh_atoms.specs.declared.tuples.Link.{Link}
use Rattle.mesh_atoms.specs.declared.tuples.TwoHop.{TwoHop}
use Rattle.mesh_atoms.specs.declared.tuples.Neighbour.{Neighbour}
use Rattle.mesh_atoms.specs.declared.tuples.Lost.{Lost}
use Rattle.mesh_atoms.specs.declared.settings.RouterSettings.{RouterSettings}
use Rattle.mesh_atoms.specs.Base.{Base, find, base_of, HasDistinctKeys, IsFresh, addr_eq, link_eq, two_hop_eq, router_eq, address_eq, network_eq, flood_eq}
use Rattle.mesh_atoms.specs.State.{Neighbourhood, TopologyBase, NotedMessages, State, is_symmetric, link_at, two_hop_at, neighbour_at, lost_at, HasAddress, IsOriginator}
use Rattle.mesh_atoms.specs.Quality.{admit_on}
use Rattle.mesh_atoms.specs.Live.{IsByLinks, IsSymmetricAddress, is_symmetric_at}
use Rattle.mesh_atoms.specs.Words.{IsAscending, AreMoreThan}
use Rattle.mesh_atoms.specs.TakesHello.{IsHeld}
use Rattle.mesh_atoms.specs.RelayGraphs.{AreRelays}
use Rattle.mesh_atoms.specs.Routes.{AreRoutes}
use Rattle.mesh_atoms.specs.Advertised.{AreTcRows}

-- a base has distinct keys, at most so many tuples, and none that is expired
pub record IsWithin {K V : Type 0} (eq : K → K → Bool) (now most : ℕ) (base : Base K V) : Type 0 where
  pub distinct : HasDistinctKeys eq base
  pub limit : length base ≤ most
  pub fresh : IsFresh eq now base

-- a link is keyed by its least address, and has link_out and selector flag only where it is SYMMETRIC
pub record IsSoundLink (now : ℕ) (key : LinkKey) (link : Link) : Type 0 where
  pub least : slice_get link.addrs 0 ≡ Some key.addr
  pub ascending : IsAscending link.addrs
  pub link_out : is_symmetric link now ≡ false → link.link_out ≡ None
  pub selector : is_symmetric link now ≡ false → link.selector ≡ false

-- a neighbour is as its links have it, a selector only where it is symmetric, and has none of the router's own addresses
pub record IsSoundNeighbour (settings : RouterSettings) (near : Neighbourhood) (now : ℕ) (originator : Addr4) (n : Neighbour)
    (until : ℕ) : Type 0 where
  pub ascending : IsAscending n.addrs
  pub by_links : IsByLinks near now n until
  pub selector : IsTrue n.selector → IsTrue n.symmetric
  pub not_mine : HasAddress settings originator → ⊥
  pub none_mine : (a : Addr4) → Contains n.addrs a → HasAddress settings a → ⊥

-- a sound neighbourhood: links are as their qualities have them; links of one interface have disjoint addresses, which are all
-- among one neighbour's; neighbours have disjoint addresses; 2-hop tuples have a SYMMETRIC link; lost addresses are no symmetric
-- neighbour's
pub record SoundNeighbourhood (settings : RouterSettings) (now : ℕ) (near : Neighbourhood) : Type 0 where
  pub interfaces : length near.links ≡ length settings.interfaces
  pub two_hop_interfaces : length near.two_hops ≡ length settings.interfaces
  pub distinct_links : (i : ℕ) → HasDistinctKeys link_eq (base_of near.links i)
  pub distinct_neighbours : HasDistinctKeys addr_eq near.neighbours
  pub distinct_losts : HasDistinctKeys addr_eq near.losts
  pub fresh_links : (i : ℕ) → IsFresh link_eq now (base_of near.links i)
  pub fresh_neighbours : IsFresh addr_eq now near.neighbours
  pub fresh_losts : IsFresh addr_eq now near.losts
  pub two_hops : (i : ℕ) → IsWithin two_hop_eq now MOST_TUPLES (base_of near.two_hops i)
  pub limit : AreMoreThan 1024 (IsHeld near) → ⊥
  pub link : (i : ℕ) (key : LinkKey) (link : Link) (until : ℕ) → link_at near i key ≡ Some (link, until) → IsSoundLink now key link
  pub by_quality : (i : ℕ) (key : LinkKey) → admit_on settings i now (link_at near i key) ≡ link_at near i key
  pub links_apart : (i : ℕ) (k l : LinkKey) (e f : Link × ℕ) (a : Addr4) → link_at near i k ≡ Some e → link_at near i l ≡ Some f →
      Contains e.0.addrs a → Contains f.0.addrs a → k ≡ l
  pub owner : (i : ℕ) (key : LinkKey) (link : Link) (until : ℕ) → link_at near i key ≡ Some (link, until) →
      (o : Addr4) × (n : Neighbour) × (u : ℕ) × (neighbour_at near o ≡ Some (n, u)) × ((a : Addr4) → Contains link.addrs a → Contains n.addrs a)
  pub neighbour : (o : Addr4) (n : Neighbour) (until : ℕ) → neighbour_at near o ≡ Some (n, until) → IsSoundNeighbour settings near now o n until
  pub neighbours_apart : (o p : Addr4) (e f : Neighbour × ℕ) (a : Addr4) → neighbour_at near o ≡ Some e → neighbour_at near p ≡ Some f →
      Contains e.0.addrs a → Contains f.0.addrs a → o ≡ p
  pub two_hop : (i : ℕ) (key : TwoHopKey) (t : TwoHop × ℕ) → two_hop_at near i key ≡ Some t → is_symmetric_at near now i key.link ≡ true
  pub lost : (a : Addr4) (e : Lost × ℕ) → lost_at near a ≡ Some e → IsSymmetricAddress near a → ⊥
  pub lost_not_mine : (a : Addr4) (e : Lost × ℕ) → lost_at near a ≡ Some e → HasAddress settings a → ⊥

-- a sound topology: no tuple is from the router itself
pub record SoundTopology (settings : RouterSettings) (now : ℕ) (topology : TopologyBase) : Type 0 where
  pub advertisers : IsWithin addr_eq now MOST_TUPLES topology.advertisers
  pub routers : IsWithin router_eq now MOST_TUPLES topology.routers
  pub addresses : IsWithin address_eq now MOST_TUPLES topology.addresses
  pub networks : IsWithin network_eq now MOST_TUPLES topology.networks
  pub not_my_advertiser : (o : Addr4) → IsOriginator settings o → find addr_eq topology.advertisers o ≡ None
  pub not_my_router : (key : RouterKey) → IsOriginator settings key.from → find router_eq topology.routers key ≡ None
  pub not_my_address : (key : AddressKey) → IsOriginator settings key.from → find address_eq topology.addresses key ≡ None
  pub not_my_network : (key : NetworkKey) → IsOriginator settings key.from → find network_eq topology.networks key ≡ None

-- sound sets of messages seen before
pub record SoundNoted (settings : RouterSettings) (now : ℕ) (noted : NotedMessages) : Type 0 where
  pub interfaces : length noted.received ≡ length settings.interfaces
  pub received : (i : ℕ) → IsWithin flood_eq now MOST_TUPLES (base_of noted.received i)
  pub processed : IsWithin flood_eq now MOST_TUPLES noted.processed
  pub forwarded : IsWithin flood_eq now MOST_TUPLES noted.forwarded

-- a sound router: its bases, relays, routes and advertised rows at the moment of its last event
pub record Sound (s : State) : Type 0 where
  pub neighbourhood : SoundNeighbourhood s.settings s.last s.bases.neighbourhood
  pub topology : SoundTopology s.settings s.last s.bases.topology
  pub noted : SoundNoted s.settings s.last s.bases.noted
  pub relays : AreRelays s s.last
  pub self : Addr4
  pub routes : AreRoutes s s.last self
  pub rows : AreTcRows s s.rows
