-- What expiry leaves of the bases at a moment, and how neighbours, lost addresses and 2-hop tuples follow the links.
use Rattle.std.specs.Prelude.{◌≡◌, ℕ, ◌+◌, ◌≤◌, ◌↔◌, ◌&&◌, List, Contains, Option, Some, None, length, IsTrue, Bool, true, false, cond}
use Rattle.mesh_atoms.specs.declared.addr.Addr4.{Addr4}
use Rattle.mesh_atoms.specs.declared.tuples.LinkKey.{LinkKey}
use Rattle.mesh_atoms.specs.declared.tuples.TwoHopKey.{TwoHopKey}
use Rattle.mesh_atoms.specs.declared.tuples.Link.{Link}
use Rattle.mesh_atoms.specs.declared.tuples.Neighbour.{Neighbour}
use Rattle.mesh_atoms.specs.declared.tuples.Lost.{Lost}
use Rattle.mesh_atoms.specs.declared.settings.RouterSettings.{RouterSettings}
use Rattle.mesh_atoms.specs.Base.{HasDistinctKeys, if_live, Expires, base_of, link_eq, two_hop_eq, addr_eq, router_eq, address_eq, network_eq, flood_eq}
use Rattle.mesh_atoms.specs.Quality.{admit_on}
use Rattle.mesh_atoms.specs.State.{Neighbourhood, TopologyBase, NotedMessages, Bases, is_symmetric, link_at, two_hop_at, neighbour_at, lost_at}
use Rattle.mesh_atoms.specs.Words.{IsLeastMetric}

-- Links

-- a link that isn't SYMMETRIC has no link_out and no selector flag (RFC 7181, section 8.1)
abbrev pub trimmed : ℕ → Link × ℕ → Link × ℕ
trimmed now e = cond (is_symmetric e.0 now) e (record e.0 { link_out = None; selector = false }, e.1)

-- the same, where there is a link
abbrev pub trim : ℕ → Option (Link × ℕ) → Option (Link × ℕ)
trim now None = None
trim now (Some e) = Some (trimmed now e)

-- whether there is a link, and it is SYMMETRIC
abbrev pub is_symmetric_entry : ℕ → Option (Link × ℕ) → Bool
is_symmetric_entry now None = false
is_symmetric_entry now (Some e) = is_symmetric e.0 now

-- whether interface i has a link with that key, and it is SYMMETRIC
abbrev pub is_symmetric_at : Neighbourhood → ℕ → ℕ → LinkKey → Bool
is_symmetric_at near now i key = is_symmetric_entry now (link_at near i key)

-- Neighbours, as the links have them (RFC 6130, sections 8.1 and 13, and RFC 7181, section 17.6)

-- a link, with its moment, of the neighbour with these addresses: its key is one of them
abbrev pub HasLinkOf : Neighbourhood → List Addr4 → ℕ → LinkKey → Link × ℕ → Type 0
HasLinkOf near addrs i key e = Contains addrs key.addr × (link_at near i key ≡ Some e)

-- a SYMMETRIC link of the neighbour with these addresses, on some interface
abbrev pub HasSymmetricOf : Neighbourhood → ℕ → List Addr4 → Link → Type 0
HasSymmetricOf near now addrs link =
    (i : ℕ) × (key : LinkKey) × (until : ℕ) × HasLinkOf near addrs i key (link, until) × (is_symmetric link now ≡ true)

-- the neighbour's moment is the latest of its links'; it is symmetric where one of them is SYMMETRIC, and has the least
-- metrics of those
pub record IsByLinks (near : Neighbourhood) (now : ℕ) (n : Neighbour) (until : ℕ) : Type 0 where
  pub latest : (i : ℕ) × (key : LinkKey) × (link : Link) × HasLinkOf near n.addrs i key (link, until)
  pub no_later : (i : ℕ) (key : LinkKey) (link : Link) (u : ℕ) → HasLinkOf near n.addrs i key (link, u) → u ≤ until
  pub symmetric : IsTrue n.symmetric ↔ ((link : Link) × HasSymmetricOf near now n.addrs link)
  pub metric_in : IsLeastMetric (λ m. (link : Link) × HasSymmetricOf near now n.addrs link × (link.link_in ≡ m)) n.metric_in
  pub metric_out : IsLeastMetric (λ m. (link : Link) × HasSymmetricOf near now n.addrs link × (link.link_out ≡ Some m)) n.metric_out

-- a neighbour that stays has its addresses and willingness, and its selector flag only where it is symmetric
pub record KeepsNeighbour (near : Neighbourhood) (now : ℕ) (old new : Neighbour) (until : ℕ) : Type 0 where
  pub addrs : new.addrs ≡ old.addrs
  pub willing : new.willing ≡ old.willing
  pub selector : new.selector ≡ (old.selector && new.symmetric)
  pub by_links : IsByLinks near now new until

-- what becomes of a neighbour: it goes where it has no link
abbrev pub Restores : Neighbourhood → ℕ → Option (Neighbour × ℕ) → Option (Neighbour × ℕ) → Type 0
Restores near now None new = new ≡ None
Restores near now (Some e) None = (i : ℕ) (key : LinkKey) (f : Link × ℕ) → HasLinkOf near e.0.addrs i key f → ⊥
Restores near now (Some e) (Some f) = KeepsNeighbour near now e.0 f.0 f.1

-- Lost addresses (RFC 6130, sections 8.2 and 12.4)

-- an address of a symmetric neighbour
abbrev pub IsSymmetricAddress : Neighbourhood → Addr4 → Type 0
IsSymmetricAddress near a =
    (o : Addr4) × (n : Neighbour) × (until : ℕ) × (neighbour_at near o ≡ Some (n, until)) × IsTrue n.symmetric × Contains n.addrs a

-- the lost tuple of an address, by whether the address was and is a symmetric neighbour's; `stood` is the tuple before
pub data SettlesLost (was is : Type 0) (until : ℕ) (stood new : Option (Lost × ℕ)) : Type 0 where
  Back : is → new ≡ None → SettlesLost was is until stood new
  Gone : was → (is → ⊥) → new ≡ Some (record {}, until) → SettlesLost was is until stood new
  Stays : (was → ⊥) → (is → ⊥) → new ≡ stood → SettlesLost was is until stood new

-- The bases after expiry

-- each base of the neighbourhood has distinct keys
pub record HasTables (near : Neighbourhood) : Type 0 where
  pub links : (i : ℕ) → HasDistinctKeys link_eq (base_of near.links i)
  pub two_hops : (i : ℕ) → HasDistinctKeys two_hop_eq (base_of near.two_hops i)
  pub neighbours : HasDistinctKeys addr_eq near.neighbours
  pub losts : HasDistinctKeys addr_eq near.losts

-- links as their qualities have them, that aren't expired then; their neighbours, and their 2-hop tuples that aren't expired where
-- they are SYMMETRIC (RFC 6130, sections 13 and 14, and RFC 7181, section 17)
pub record LiveNeighbourhood (settings : RouterSettings) (now : ℕ) (old new : Neighbourhood) : Type 0 where
  pub tables : HasTables new
  pub interfaces : length new.links ≡ length old.links
  pub two_hop_interfaces : length new.two_hops ≡ length old.two_hops
  pub links : (i : ℕ) (key : LinkKey) → link_at new i key ≡ trim now (if_live now (admit_on settings i now (link_at old i key)))
  pub two_hops : (i : ℕ) (key : TwoHopKey) →
      two_hop_at new i key ≡ cond (is_symmetric_at new now i key.link) (if_live now (two_hop_at old i key)) None
  pub neighbours : (o : Addr4) → Restores new now (neighbour_at old o) (neighbour_at new o)
  pub losts : (a : Addr4) →
      SettlesLost (IsSymmetricAddress old a) (IsSymmetricAddress new a) (now + settings.times.neighbour_hold)
      (if_live now (lost_at old a)) (lost_at new a)

-- topology tuples that aren't expired
pub record LiveTopology (now : ℕ) (old new : TopologyBase) : Type 0 where
  pub distinct_advertisers : HasDistinctKeys addr_eq new.advertisers
  pub distinct_routers : HasDistinctKeys router_eq new.routers
  pub distinct_addresses : HasDistinctKeys address_eq new.addresses
  pub distinct_networks : HasDistinctKeys network_eq new.networks
  pub advertisers : Expires addr_eq now old.advertisers new.advertisers
  pub routers : Expires router_eq now old.routers new.routers
  pub addresses : Expires address_eq now old.addresses new.addresses
  pub networks : Expires network_eq now old.networks new.networks

-- received, processed and forwarded tuples that aren't expired
pub record LiveNoted (now : ℕ) (old new : NotedMessages) : Type 0 where
  pub distinct_received : (i : ℕ) → HasDistinctKeys flood_eq (base_of new.received i)
  pub distinct_processed : HasDistinctKeys flood_eq new.processed
  pub distinct_forwarded : HasDistinctKeys flood_eq new.forwarded
  pub interfaces : length new.received ≡ length old.received
  pub received : (i : ℕ) → Expires flood_eq now (base_of old.received i) (base_of new.received i)
  pub processed : Expires flood_eq now old.processed new.processed
  pub forwarded : Expires flood_eq now old.forwarded new.forwarded

-- all bases after expiry
pub record Live (settings : RouterSettings) (now : ℕ) (old new : Bases) : Type 0 where
  pub neighbourhood : LiveNeighbourhood settings now old.neighbourhood new.neighbourhood
  pub topology : LiveTopology now old.topology new.topology
  pub noted : LiveNoted now old.noted new.noted
