-- The law of settled routes: in a settled network each router's rows are those of the radio graph, and next hops lead there.
use Rattle.std.specs.Prelude.{◌≡◌, ℕ, ◌+◌, ◌≤◌, ◌↔◌, List, Contains}
use Rattle.mesh_atoms.specs.declared.addr.Addr4.{Addr4}
use Rattle.mesh_atoms.specs.declared.addr.NetAddr.{NetAddr}
use Rattle.mesh_atoms.specs.declared.codes.metric.Metric.{Metric}
use Rattle.mesh_atoms.specs.declared.graphs.Route.{Route}
use Rattle.mesh_atoms.specs.declared.settings.Scenario.{Scenario}
use Rattle.mesh_atoms.specs.Base.{host}
use Rattle.mesh_atoms.specs.Codes.Codes.{metric_value}
use Rattle.mesh_atoms.specs.Radio.{Joins, HopCosts, IsWillingRouter, AddressOf, Attaches, RadioLeast, IsSoundScenario}
use Rattle.mesh_atoms.specs.Settled.{At, AreStates, Settled}
use Rattle.mesh_atoms.specs.Sound.{Sound}
use Rattle.mesh_atoms.specs.State.{State, HasAddressOn}
use Rattle.mesh_atoms.specs.Walk.{LeastWilling}

-- The premises

-- in a scenario whose addresses are distinct, and in which no attached network is a router's address, each router is sound at one
-- moment, that of its last event, and settled at that moment
pub record IsSettledNetwork (s : Scenario) (states : List State) (now : ℕ) : Type 0 where
  pub scenario : IsSoundScenario s
  pub routers : AreStates s states
  pub sound : (x : ℕ) (p : State) → At states x p → Sound p
  pub moment : (x : ℕ) (p : State) → At states x p → p.last ≡ now
  pub settled : Settled s states now

-- each scenario is sound
abbrev pub EveryScenarioIsSound : Type 0
EveryScenarioIsSound = (s : Scenario) → IsSoundScenario s

-- Rows

-- the router has a row of the destination at that metric
abbrev pub HasRow : State → NetAddr → ℕ → Type 0
HasRow p dest c = (row : Route) × Contains p.routes row × (row.dest ≡ dest) × (row.metric ≡ c)

-- a router's rows are exactly those of the radio graph's least metrics
abbrev pub RowsAreLeast : Type 0
RowsAreLeast =
    (s : Scenario) (states : List State) (now x : ℕ) (p : State) → IsSettledNetwork s states now → At states x p →
    (dest : NetAddr) (c : ℕ) → HasRow p dest c ↔ RadioLeast s x dest c

-- Next hops

-- at the router n, to which the metric is `near`, the destination is one of its addresses, at a row of that metric; or it has a row
-- for what is left of the metric; or it attaches the network, and delivers there
pub data LeadsOn (s : Scenario) (states : List State) (dest : NetAddr) (n near c : ℕ) : Type 0 where
  Arrives : {a : Addr4} → dest ≡ host a → AddressOf s n a → c ≡ near → LeadsOn s states dest n near c
  Goes_on : (q : State) (rest : ℕ) → At states n q → HasRow q dest rest → c ≡ near + rest → LeadsOn s states dest n near c
  At_gateway : (own : ℕ) → Attaches s n dest own → c ≤ near + own → LeadsOn s states dest n near c

-- interface i of router x is joined with the interface of router n that has the address, by an arc of that cost
pub record HopsTo (s : Scenario) (states : List State) (x i n : ℕ) (a : Addr4) (near : ℕ) : Type 0 where
  pub j : ℕ
  pub q : State
  pub at : At states n q
  pub there : Metric
  pub back : Metric
  pub joins : Joins s x i n j there back
  pub on : HasAddressOn q.settings j a
  pub value : metric_value there ≡ near

-- a row's next hop is an adjacent router, to which no way is cheaper: its interface and address name joined interfaces whose arc
-- costs exactly the metric to that router, and that router leads on at the row's metric
abbrev pub NextHopsLead : Type 0
NextHopsLead =
    (s : Scenario) (states : List State) (now x : ℕ) (p : State) → IsSettledNetwork s states now → At states x p →
    (row : Route) → Contains p.routes row →
    (n near : ℕ) × HopCosts s x n near × LeastWilling (HopCosts s) (IsWillingRouter s) x n near × HopsTo s states x row.iface n row.next near
    × LeadsOn s states row.dest n near row.metric

-- Trips

-- hop by hop along the rows of a destination, from router x to a router that has it, at that cost in all
pub data Trip (s : Scenario) (states : List State) (dest : NetAddr) : ℕ → ℕ → Type 0 where
  Has_it : {x : ℕ} {a : Addr4} → dest ≡ host a → AddressOf s x a → Trip s states dest x 0
  Attaches_it : {x k : ℕ} → Attaches s x dest k → Trip s states dest x k
  Next : {x n near c : ℕ} (p : State) (row : Route) → At states x p → Contains p.routes row → row.dest ≡ dest →
      HopsTo s states x row.iface n row.next near → Trip s states dest n c → Trip s states dest x (near + c)

-- a trip from router x ends, at no less than the metric; to a router's address at exactly the metric
pub record TripEnds (s : Scenario) (states : List State) (x : ℕ) (dest : NetAddr) (metric : ℕ) : Type 0 where
  pub total : ℕ
  pub trip : Trip s states dest x total
  pub no_less : metric ≤ total
  pub exact : (y : ℕ) (a : Addr4) → dest ≡ host a → AddressOf s y a → total ≡ metric

-- from a router that has a row, a trip to its destination ends
abbrev pub TripsEnd : Type 0
TripsEnd =
    (s : Scenario) (states : List State) (now x : ℕ) (p : State) → IsSettledNetwork s states now → At states x p →
    (row : Route) → Contains p.routes row → TripEnds s states x row.dest row.metric
