-- What is alike: equal but for the order of tuples, which means nothing, and for routes, which nothing in a trace depends on.
use Rattle.std.specs.Prelude.{◌≡◌, ℕ, ◌<◌, ◌^◌, Some, slice_get, length}
use Rattle.mesh_atoms.specs.declared.addr.Addr4.{Addr4}
use Rattle.mesh_atoms.specs.declared.tuples.Neighbour.{Neighbour}
use Rattle.mesh_atoms.specs.Base.{Same, base_of, link_eq, two_hop_eq, addr_eq, router_eq, address_eq, network_eq, flood_eq}
use Rattle.mesh_atoms.specs.State.{Neighbourhood, TopologyBase, NotedMessages, Bases, State, HasSymmetric}
use Rattle.mesh_texts.specs.machine.Laws.{SoundBases}
use Rattle.mesh_trace.specs.Positions.Standing.{TracePosition}

-- the same tuples near the router, on as many interfaces: at each key the same tuple, or none
pub record AlikeNear (a b : Neighbourhood) : Type 0 where
  pub interfaces : length b.links ≡ length a.links
  pub two_hop_interfaces : length b.two_hops ≡ length a.two_hops
  pub links : (i : ℕ) → Same link_eq (base_of a.links i) (base_of b.links i)
  pub two_hops : (i : ℕ) → Same two_hop_eq (base_of a.two_hops i) (base_of b.two_hops i)
  pub neighbours : Same addr_eq a.neighbours b.neighbours
  pub losts : Same addr_eq a.losts b.losts

-- the same tuples of the topology
pub record AlikeTopology (a b : TopologyBase) : Type 0 where
  pub advertisers : Same addr_eq a.advertisers b.advertisers
  pub routers : Same router_eq a.routers b.routers
  pub addresses : Same address_eq a.addresses b.addresses
  pub networks : Same network_eq a.networks b.networks

-- the same messages noted
pub record AlikeNoted (a b : NotedMessages) : Type 0 where
  pub interfaces : length b.received ≡ length a.received
  pub received : (i : ℕ) → Same flood_eq (base_of a.received i) (base_of b.received i)
  pub processed : Same flood_eq a.processed b.processed
  pub forwarded : Same flood_eq a.forwarded b.forwarded

-- bases that say the same at each key
pub record AlikeBases (a b : Bases) : Type 0 where
  pub neighbourhood : AlikeNear a.neighbourhood b.neighbourhood
  pub topology : AlikeTopology a.topology b.topology
  pub noted : AlikeNoted a.noted b.noted

-- routers that are alike: their routes alone may differ, and the order of their tuples
pub record AlikeStates (s t : State) : Type 0 where
  pub settings : t.settings ≡ s.settings
  pub bases : AlikeBases s.bases t.bases
  pub relays : t.relays ≡ s.relays
  pub rows : t.rows ≡ s.rows
  pub ansn : t.ansn ≡ s.ansn
  pub emptied : t.emptied ≡ s.emptied
  pub sequence : t.sequence ≡ s.sequence
  pub next_hello : t.next_hello ≡ s.next_hello
  pub next_tc : t.next_tc ≡ s.next_tc
  pub last : t.last ≡ s.last

-- positions that are alike
pub record Alike (p q : TracePosition) : Type 0 where
  pub scenario : q.net.scenario ≡ p.net.scenario
  pub count : length q.net.routers ≡ length p.net.routers
  pub routers : (x : ℕ) (s t : State) → slice_get p.net.routers x ≡ Some s → slice_get q.net.routers x ≡ Some t → AlikeStates s t
  pub traffic : q.net.traffic ≡ p.net.traffic
  pub last_ticks : q.net.last_ticks ≡ p.net.last_ticks
  pub router : q.router ≡ p.router
  pub left : q.left ≡ p.left

-- the bases of each router are sound at the moment of its last event
pub record IsSoundPosition (p : TracePosition) : Type 0 where
  pub sound : (x : ℕ) (s : State) → slice_get p.net.routers x ≡ Some s → SoundBases s.settings s.last s.bases

-- the originators of a router's symmetric neighbours are addresses of 32 bits. A line tells an address by its four numbers, and so tells
-- these apart
abbrev pub HasAddresses : State → Type 0
HasAddresses s = (o : Addr4) (n : Neighbour) → HasSymmetric s o n → o.0 < 2 ^ 32

-- the symmetric neighbours of each router have such originators
pub record IsOfAddresses (p : TracePosition) : Type 0 where
  pub addresses : (x : ℕ) (s : State) → slice_get p.net.routers x ≡ Some s → HasAddresses s
