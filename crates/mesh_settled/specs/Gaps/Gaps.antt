-- Gaps: the keys at which a router holds something else than the network has at present.
use Rattle.std.specs.Prelude.{◌≡◌, ℕ, ◌<◌, ◌⊎◌, List, Option, Some, None, Bool, nat_lt, nat_eq, ◌&&◌, ◌||◌, IsTrue}
use Rattle.mesh_atoms.specs.declared.codes.metric.Metric.{Metric}
use Rattle.mesh_atoms.specs.declared.tuples.Link.{Link as LinkTuple}
use Rattle.mesh_atoms.specs.declared.tuples.Neighbour.{Neighbour as NeighbourTuple}
use Rattle.mesh_atoms.specs.declared.tuples.TwoHop.{TwoHop as TwoHopTuple}
use Rattle.mesh_atoms.specs.declared.tuples.LinkKey.{LinkKey}
use Rattle.mesh_atoms.specs.declared.tuples.TwoHopKey.{TwoHopKey}
use Rattle.mesh_atoms.specs.declared.addr.Addr4.{Addr4}
use Rattle.mesh_atoms.specs.declared.settings.Scenario.{Scenario}
use Rattle.mesh_atoms.specs.Base.{Base, Has}
use Rattle.mesh_atoms.specs.Radio.{Joins, IsMetric}
use Rattle.mesh_atoms.specs.declared.tuples.LinkState.TheVariants.{Symmetric as Is_symmetric}
use Rattle.mesh_atoms.specs.State.{State, state_of, HasLink, HasTwoHop, HasSymmetric}
use Rattle.mesh_atoms.specs.Settled.{At, IsLinkTo, IsNeighbourOf, IsTwoHopBy, IsPeer, IsStray, IsRouterBy, IsAddressBy, IsNetworkBy}
use Rattle.mesh_atoms.specs.declared.gap.Gap.{Gap}
use Rattle.mesh_atoms.specs.declared.gap.GapValue.{GapValue}
use Rattle.mesh_atoms.specs.declared.gap.GapKind.{GapKind}
use Rattle.mesh_atoms.specs.declared.gap.GapKind.TheVariants.{Link as Of_link, Neighbour as Of_neighbour, TwoHop as Of_two_hop, Topology as Of_topology}
use Rattle.mesh_atoms.specs.declared.gap.GapKey.{GapKey}
use Rattle.mesh_atoms.specs.declared.gap.GapKey.TheVariants.{Link, Neighbour, TwoHop, Router, Address, Network}
use Rattle.mesh_settled.specs.declared.gaps.found.Rank.{Rank}
use Rattle.mesh_settled.specs.Gaps.Fields.{Field, link_fields, neighbour_fields, two_hop_fields, router_fields, address_fields, network_fields, AllSame, DifferFrom}

-- The two sides at a key

-- router x, in state p, among the routers of a scenario in these states at now
pub record Look : Type 0 where
  pub s : Scenario
  pub states : List State
  pub now : ℕ
  pub x : ℕ
  pub p : State

-- such a router: the scenario, the states of its routers, the moment, and the router's number and state
abbrev pub look : Scenario → List State → ℕ → ℕ → State → Look
look s states now x p = record { s = s; states = states; now = now; x = x; p = p }

-- the fields of a SYMMETRIC link that the router holds
abbrev pub IsHeldLink : State → ℕ → ℕ → LinkKey → List Field → Type 0
IsHeldLink p now i key fs = (t : LinkTuple) × HasLink p i key t × (state_of t now ≡ Is_symmetric) × (fs ≡ link_fields t)

-- those of the link with the interface of a router with which interface i is joined
abbrev pub IsPresentLink : Look → ℕ → LinkKey → List Field → Type 0
IsPresentLink l i key fs =
    (y j : ℕ) × (q : State) × (there back : Metric) × (t : LinkTuple) × At l.states y q × Joins l.s l.x i y j there back
    × IsLinkTo l.p q i j l.now there back key t × (fs ≡ link_fields t)

-- of a symmetric neighbour that the router holds
abbrev pub IsHeldNeighbour : State → Addr4 → List Field → Type 0
IsHeldNeighbour p o fs = (t : NeighbourTuple) × HasSymmetric p o t × (fs ≡ neighbour_fields t)

-- of the neighbour that a router is which has interfaces joined with its own
abbrev pub IsPresentNeighbour : Look → Addr4 → List Field → Type 0
IsPresentNeighbour l o fs =
    (y : ℕ) × (q : State) × (there back : Metric) × (t : NeighbourTuple) × At l.states y q × IsMetric l.s l.x y there
    × IsMetric l.s y l.x back × IsNeighbourOf l.p q l.now there back o t × (fs ≡ neighbour_fields t)

-- of a 2-hop tuple that the router holds
abbrev pub IsHeldTwoHop : State → ℕ → TwoHopKey → List Field → Type 0
IsHeldTwoHop p i key fs = (t : TwoHopTuple) × HasTwoHop p i key t × (fs ≡ two_hop_fields t)

-- of the 2-hop tuple of an address that the HELLO of an interface shows SYMMETRIC with which interface i is joined
abbrev pub IsPresentTwoHop : Look → ℕ → TwoHopKey → List Field → Type 0
IsPresentTwoHop l i key fs =
    (y j : ℕ) × (q : State) × (there back : Metric) × (t : TwoHopTuple) × At l.states y q × Joins l.s l.x i y j there back
    × IsTwoHopBy l.p q j l.now key t × (fs ≡ two_hop_fields t)

-- of a topology tuple that the router holds, of any kind: one of the base with that key
abbrev pub IsHeldTopic : {K V : Type 0} → Base K V → (V → List Field) → K → List Field → Type 0
IsHeldTopic {K} {V} base fields key fs = (t : V) × Has base key t × (fs ≡ fields t)

-- of one that the TC of another router gives which is joined with it
abbrev pub IsPresentTopic : {K V : Type 0} → Look → (State → K → V → Type 0) → (V → List Field) → K → List Field → Type 0
IsPresentTopic {K} {V} l by fields key fs =
    (w : ℕ) × (q : State) × (t : V) × IsPeer l.s l.states l.x w q × by q key t × (fs ≡ fields t)

-- the router holds a tuple of the key, with these fields
abbrev pub IsHeldTuple : Look → GapKey → List Field → Type 0
IsHeldTuple l (Link i key) fs = IsHeldLink l.p l.now i key fs
IsHeldTuple l (Neighbour o) fs = IsHeldNeighbour l.p o fs
IsHeldTuple l (TwoHop i key) fs = IsHeldTwoHop l.p i key fs
IsHeldTuple l (Router from to) fs = IsHeldTopic l.p.bases.topology.routers router_fields (record { from = from; to = to }) fs
IsHeldTuple l (Address from a) fs = IsHeldTopic l.p.bases.topology.addresses address_fields (record { from = from; addr = a }) fs
IsHeldTuple l (Network from net) fs = IsHeldTopic l.p.bases.topology.networks network_fields (record { from = from; net = net }) fs

-- the HELLOs of its neighbours, or the TCs of the routers joined with it, say that there is one at present, with these fields
abbrev pub IsPresentTuple : Look → GapKey → List Field → Type 0
IsPresentTuple l (Link i key) fs = IsPresentLink l i key fs
IsPresentTuple l (Neighbour o) fs = IsPresentNeighbour l o fs
IsPresentTuple l (TwoHop i key) fs = IsPresentTwoHop l i key fs
IsPresentTuple l (Router from to) fs = IsPresentTopic l IsRouterBy router_fields (record { from = from; to = to }) fs
IsPresentTuple l (Address from a) fs = IsPresentTopic l IsAddressBy address_fields (record { from = from; addr = a }) fs
IsPresentTuple l (Network from net) fs = IsPresentTopic l IsNetworkBy network_fields (record { from = from; net = net }) fs

-- the key isn't looked at: a topology tuple's from a stray router
abbrev pub IsExcepted : Look → GapKey → Type 0
IsExcepted l (Link i key) = ⊥
IsExcepted l (Neighbour o) = ⊥
IsExcepted l (TwoHop i key) = ⊥
IsExcepted l (Router from to) = IsStray l.s l.x from
IsExcepted l (Address from a) = IsStray l.s l.x from
IsExcepted l (Network from net) = IsStray l.s l.x from

-- A gap

-- a field, and its number
abbrev pub at_field : ℕ → Option ℕ → GapValue
at_field field number = record { field = field; number = number }

-- one side alone has a tuple of the key; or both have one, and the two values say the first field that differs
pub data IsGapAt (l : Look) (key : GapKey) (held present : Option GapValue) : Type 0 where
  Held_alone : (fs : List Field) → IsHeldTuple l key fs → (IsExcepted l key → ⊥) →
      ((gs : List Field) → IsPresentTuple l key gs → ⊥) →
      held ≡ Some (at_field 0 None) → present ≡ None → IsGapAt l key held present
  Present_alone : (gs : List Field) → IsPresentTuple l key gs → ((fs : List Field) → IsHeldTuple l key fs → ⊥) →
      held ≡ None → present ≡ Some (at_field 0 None) → IsGapAt l key held present
  Unequal : (fs gs : List Field) (field : ℕ) (m n : Option ℕ) → IsHeldTuple l key fs → IsPresentTuple l key gs →
      DifferFrom 0 fs gs field m n →
      held ≡ Some (at_field field m) → present ≡ Some (at_field field n) → IsGapAt l key held present

-- no gap: whatever one side has, the other has too, with the same fields, but for what isn't looked at
pub record AreSame (l : Look) (key : GapKey) : Type 0 where
  pub held : (fs : List Field) → IsHeldTuple l key fs →
      IsExcepted l key ⊎ ((gs : List Field) × IsPresentTuple l key gs × AllSame fs gs)
  pub present : (gs : List Field) → IsPresentTuple l key gs → (fs : List Field) × IsHeldTuple l key fs × AllSame gs fs

-- no gap at any key
abbrev pub HasNoGap : Look → Type 0
HasNoGap l = (key : GapKey) → AreSame l key

-- The first gap

-- where a key stands in order: by its kind, then interface, then addresses, and networks also by prefix
abbrev pub rank_of : GapKey → Rank
rank_of (Link i key) = record { kind = 0; iface = i; first = key.addr.0; second = 0; prefix = 0 }
rank_of (Neighbour o) = record { kind = 1; iface = 0; first = o.0; second = 0; prefix = 0 }
rank_of (TwoHop i key) = record { kind = 2; iface = i; first = key.link.addr.0; second = key.addr.0; prefix = 0 }
rank_of (Router from to) = record { kind = 3; iface = 0; first = from.0; second = to.0; prefix = 0 }
rank_of (Address from a) = record { kind = 4; iface = 0; first = from.0; second = a.0; prefix = 0 }
rank_of (Network from net) = record { kind = 5; iface = 0; first = from.0; second = net.addr.0; prefix = net.prefix }

-- the lesser number first; where they are equal, what follows decides
abbrev pub precedes : ℕ → ℕ → Bool → Bool
precedes m n next = nat_lt m n || nat_eq m n && next

-- the first number in which the two ranks differ is less in the first
abbrev pub is_ranked_before : Rank → Rank → Bool
is_ranked_before k l =
    precedes k.kind l.kind (precedes k.iface l.iface
    (precedes k.first l.first (precedes k.second l.second (nat_lt k.prefix l.prefix))))

-- the kind that a gap is told as: that of its key, where the three of topology are one
abbrev pub gap_kind : GapKey → GapKind
gap_kind (Link i key) = Of_link
gap_kind (Neighbour o) = Of_neighbour
gap_kind (TwoHop i key) = Of_two_hop
gap_kind (Router from to) = Of_topology
gap_kind (Address from a) = Of_topology
gap_kind (Network from net) = Of_topology

-- the gap is the first: no router before it has one, and its router has none at a key that stands before its key
pub record IsFirstGap (s : Scenario) (states : List State) (now : ℕ) (gap : Gap) : Type 0 where
  pub p : State
  pub at : At states gap.router p
  pub kind : gap.kind ≡ gap_kind gap.key
  pub is : IsGapAt (look s states now gap.router p) gap.key gap.held gap.present
  pub no_router_before : (y : ℕ) (q : State) → y < gap.router → At states y q → HasNoGap (look s states now y q)
  pub no_key_before : (key : GapKey) → IsTrue (is_ranked_before (rank_of key) (rank_of gap.key)) →
      AreSame (look s states now gap.router p) key
