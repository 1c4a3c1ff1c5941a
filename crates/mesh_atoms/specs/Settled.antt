-- A settled network: each router holds exactly what its neighbours and the routers joined with it say at present.
use Rattle.std.specs.Prelude.{◌≡◌, ℕ, ◌≤◌, ◌⊎◌, ◌≢◌, ◌↔◌, List, Contains, Some, slice_get, IsTrue}
use Rattle.mesh_atoms.specs.declared.addr.Addr4.{Addr4}
use Rattle.mesh_atoms.specs.declared.codes.metric.Metric.{Metric}
use Rattle.mesh_atoms.specs.declared.tuples.LinkKey.{LinkKey}
use Rattle.mesh_atoms.specs.declared.tuples.TwoHopKey.{TwoHopKey}
use Rattle.mesh_atoms.specs.declared.tuples.RouterKey.{RouterKey}
use Rattle.mesh_atoms.specs.declared.tuples.AddressKey.{AddressKey}
use Rattle.mesh_atoms.specs.declared.tuples.NetworkKey.{NetworkKey}
use Rattle.mesh_atoms.specs.declared.tuples.Link.{Link}
use Rattle.mesh_atoms.specs.declared.tuples.TwoHop.{TwoHop}
use Rattle.mesh_atoms.specs.declared.tuples.Neighbour.{Neighbour}
use Rattle.mesh_atoms.specs.declared.tuples.RouterTuple.{RouterTuple}
use Rattle.mesh_atoms.specs.declared.tuples.AddressTuple.{AddressTuple}
use Rattle.mesh_atoms.specs.declared.tuples.NetworkTuple.{NetworkTuple}
use Rattle.mesh_atoms.specs.declared.settings.RouterSettings.{RouterSettings}
use Rattle.mesh_atoms.specs.declared.settings.Scenario.{Scenario}
use Rattle.mesh_atoms.specs.Base.{Has}
use Rattle.mesh_atoms.specs.declared.tuples.LinkState.TheVariants.{Symmetric as Is_symmetric}
use Rattle.mesh_atoms.specs.State.{State, state_of, HasLink, HasTwoHop, HasSymmetric, HasAddress, HasAddressOn, IsOriginator}
use Rattle.mesh_atoms.specs.Hello.{Says, SaysSymmetric, IsSaid, Flooding, Routing, Near_in, Near_out, Link_in, Link_out}
use Rattle.mesh_atoms.specs.Advertised.{Advertises, AdvertisesOriginator, AdvertisesNetwork}
use Rattle.mesh_atoms.specs.Radio.{Joins, Adjacent, IsMetric, Joined, Router, AddressOf}

-- the state of router x, where the states are those of a scenario's routers, in order
pub record At (states : List State) (x : ℕ) (p : State) : Type 0 where
  pub is : slice_get states x ≡ Some p

-- What a router in state q gives to a neighbour in state p

-- the least address of interface j
abbrev pub IsLeastAddress : RouterSettings → ℕ → Addr4 → Type 0
IsLeastAddress r j a = HasAddressOn r j a × ((b : Addr4) → HasAddressOn r j b → a.0 ≤ b.0)

-- the link of p's interface i with q's interface j, which is its selector where q's HELLO shows an address of i as a flooding relay's
pub record IsLinkTo (p q : State) (i j now : ℕ) (there back : Metric) (key : LinkKey) (link : Link) : Type 0 where
  pub keyed : IsLeastAddress q.settings j key.addr
  pub addresses : (a : Addr4) → Contains link.addrs a ↔ HasAddressOn q.settings j a
  pub link_in : link.link_in ≡ back
  pub link_out : link.link_out ≡ Some there
  pub selector : IsTrue link.selector ↔ ((a : Addr4) × HasAddressOn p.settings i a × Says q j now a Flooding)

-- the neighbour tuple. j is any of q's interfaces, since each of its HELLOs shows the same routing relays
pub record IsNeighbourOf (p q : State) (now : ℕ) (there back : Metric) (originator : Addr4) (n : Neighbour) : Type 0 where
  pub originator_is : IsOriginator q.settings originator
  pub addresses : (a : Addr4) → Contains n.addrs a ↔ HasAddress q.settings a
  pub willing : n.willing ≡ q.settings.willing
  pub metric_in : n.metric_in ≡ Some back
  pub metric_out : n.metric_out ≡ Some there
  pub selector : (j : ℕ) → IsTrue n.selector ↔ ((a : Addr4) × HasAddress p.settings a × Says q j now a Routing)

-- a 2-hop tuple by the HELLO of q's interface j: of an address that it shows SYMMETRIC, and that is neither p's nor q's
pub record IsTwoHopBy (p q : State) (j now : ℕ) (key : TwoHopKey) (t : TwoHop) : Type 0 where
  pub link : IsLeastAddress q.settings j key.link.addr
  pub shown : SaysSymmetric q j now key.addr
  pub not_mine : HasAddress p.settings key.addr → ⊥
  pub not_theirs : HasAddress q.settings key.addr → ⊥
  pub metric_in : IsSaid (λ m. Says q j now key.addr (Near_in m)) (λ m. Says q j now key.addr (Link_in m)) t.metric_in
  pub metric_out : IsSaid (λ m. Says q j now key.addr (Near_out m)) (λ m. Says q j now key.addr (Link_out m)) t.metric_out

-- What the TC of a router in state q gives

-- a router topology tuple, by a row of an originator
pub record IsRouterBy (q : State) (key : RouterKey) (t : RouterTuple) : Type 0 where
  pub from : IsOriginator q.settings key.from
  pub to : AdvertisesOriginator q key.to
  pub metric : Advertises q key.to t.metric
  pub ansn : t.ansn ≡ q.ansn

-- a routable address topology tuple
pub record IsAddressBy (q : State) (key : AddressKey) (t : AddressTuple) : Type 0 where
  pub from : IsOriginator q.settings key.from
  pub metric : Advertises q key.addr t.metric
  pub ansn : t.ansn ≡ q.ansn

-- an attached network tuple
pub record IsNetworkBy (q : State) (key : NetworkKey) (t : NetworkTuple) : Type 0 where
  pub from : IsOriginator q.settings key.from
  pub row : AdvertisesNetwork q key.net t.distance t.metric
  pub ansn : t.ansn ≡ q.ansn

-- another router that is joined with x, in that state
pub record IsPeer (s : Scenario) (states : List State) (x w : ℕ) (q : State) : Type 0 where
  pub other : w ≢ x
  pub joined : Joined s x w
  pub at : At states w q

-- an address of a router that is neither x nor joined with x: no walk from x reaches it
abbrev pub IsStray : Scenario → ℕ → Addr4 → Type 0
IsStray s x a = (v : ℕ) × (v ≢ x) × (Joined s x v → ⊥) × AddressOf s v a

-- The settled network

-- what router x holds of SYMMETRIC links, symmetric neighbours and 2-hop tuples is what its neighbours' HELLOs give at present, and
-- what it holds of topology is what the TCs of the routers joined with it give, but for tuples from stray routers
pub record IsSettledAt (s : Scenario) (states : List State) (now x : ℕ) (p : State) : Type 0 where
  pub link_from : (i : ℕ) (key : LinkKey) (link : Link) → HasLink p i key link → state_of link now ≡ Is_symmetric →
      (y j : ℕ) × (q : State) × (there back : Metric) × At states y q × Joins s x i y j there back × IsLinkTo p q i j now there back key link
  pub link_to : (i y j : ℕ) (q : State) (there back : Metric) → At states y q → Joins s x i y j there back →
      (key : LinkKey) × (link : Link) × HasLink p i key link × (state_of link now ≡ Is_symmetric) × IsLinkTo p q i j now there back key link
  pub neighbour_from : (o : Addr4) (n : Neighbour) → HasSymmetric p o n →
      (y : ℕ) × (q : State) × (there back : Metric) × At states y q × IsMetric s x y there × IsMetric s y x back
      × IsNeighbourOf p q now there back o n
  pub neighbour_to : (y : ℕ) (q : State) → At states y q → Adjacent s x y →
      (o : Addr4) × (n : Neighbour) × (there back : Metric) × HasSymmetric p o n × IsMetric s x y there × IsMetric s y x back
      × IsNeighbourOf p q now there back o n
  pub two_hop_from : (i : ℕ) (key : TwoHopKey) (t : TwoHop) → HasTwoHop p i key t →
      (y j : ℕ) × (q : State) × (there back : Metric) × At states y q × Joins s x i y j there back × IsTwoHopBy p q j now key t
  pub two_hop_to : (i y j : ℕ) (q : State) (there back : Metric) (key : TwoHopKey) (t : TwoHop) → At states y q → Joins s x i y j there back →
      IsTwoHopBy p q j now key t → HasTwoHop p i key t
  pub router_from : (key : RouterKey) (t : RouterTuple) → Has p.bases.topology.routers key t →
      IsStray s x key.from ⊎ ((w : ℕ) × (q : State) × IsPeer s states x w q × IsRouterBy q key t)
  pub router_to : (w : ℕ) (q : State) (key : RouterKey) (t : RouterTuple) → IsPeer s states x w q → IsRouterBy q key t →
      Has p.bases.topology.routers key t
  pub address_from : (key : AddressKey) (t : AddressTuple) → Has p.bases.topology.addresses key t →
      IsStray s x key.from ⊎ ((w : ℕ) × (q : State) × IsPeer s states x w q × IsAddressBy q key t)
  pub address_to : (w : ℕ) (q : State) (key : AddressKey) (t : AddressTuple) → IsPeer s states x w q → IsAddressBy q key t →
      Has p.bases.topology.addresses key t
  pub network_from : (key : NetworkKey) (t : NetworkTuple) → Has p.bases.topology.networks key t →
      IsStray s x key.from ⊎ ((w : ℕ) × (q : State) × IsPeer s states x w q × IsNetworkBy q key t)
  pub network_to : (w : ℕ) (q : State) (key : NetworkKey) (t : NetworkTuple) → IsPeer s states x w q → IsNetworkBy q key t →
      Has p.bases.topology.networks key t

-- the states are those of the scenario's routers
pub record AreStates (s : Scenario) (states : List State) : Type 0 where
  pub settings : (x : ℕ) (p : State) → At states x p → Router s x p.settings
  pub all : (x : ℕ) (r : RouterSettings) → Router s x r → (p : State) × At states x p

-- each router of the scenario is settled at now
abbrev pub Settled : Scenario → List State → ℕ → Type 0
Settled s states now = (x : ℕ) (p : State) → At states x p → IsSettledAt s states now x p
