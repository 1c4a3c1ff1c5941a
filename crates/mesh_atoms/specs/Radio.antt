-- The radio graph of a scenario: which routers hear each other, and at which costs they reach each other and the networks.
use Rattle.std.specs.Prelude.{◌≡◌, ℕ, ◌≤◌, ◌≢◌, ◌↔◌, Contains, Some, slice_get, length}
use Rattle.mesh_atoms.specs.declared.addr.Addr4.{Addr4}
use Rattle.mesh_atoms.specs.declared.addr.NetAddr.{NetAddr}
use Rattle.mesh_atoms.specs.declared.codes.metric.Metric.{Metric}
use Rattle.mesh_atoms.specs.declared.settings.RadioArc.{RadioArc}
use Rattle.mesh_atoms.specs.declared.settings.Interface.{Interface}
use Rattle.mesh_atoms.specs.declared.settings.RouterSettings.{RouterSettings}
use Rattle.mesh_atoms.specs.declared.settings.Attached4.{Attached4}
use Rattle.mesh_atoms.specs.declared.settings.Scenario.{Scenario}
use Rattle.mesh_atoms.specs.declared.graphs.Pair.{Pair}
use Rattle.mesh_atoms.specs.declared.graphs.RadioGraph.{RadioGraph}
use Rattle.mesh_atoms.specs.Base.{host}
use Rattle.mesh_atoms.specs.Codes.Codes.{metric_value}
use Rattle.mesh_atoms.specs.Quality.{quality_at}
use Rattle.mesh_atoms.specs.State.{HasAddress, HasAddressOn, IsOriginator}
use Rattle.mesh_atoms.specs.Walk.{LeastWilling, LeastToNet}

-- Arcs

-- an arc leads from interface i of router x to interface j of router y, at that metric, whatever its loss
abbrev pub Leads : Scenario → ℕ → ℕ → ℕ → ℕ → Metric → Type 0
Leads s x i y j m =
    (arc : RadioArc) × Contains s.arcs arc × (arc.from ≡ x) × (arc.from_iface ≡ i) × (arc.to ≡ y) × (arc.to_iface ≡ j) × (arc.metric ≡ m)

-- what interface i of router x sends is admitted on interface j of router y at the end of the scenario: its quality there is
-- accepted (RFC 6130, section 14)
pub record IsAdmitted (s : Scenario) (x i y j : ℕ) : Type 0 where
  pub sender : RouterSettings
  pub sends : slice_get s.routers x ≡ Some sender
  pub from : Interface
  pub is_from : slice_get sender.interfaces i ≡ Some from
  pub receiver : RouterSettings
  pub receives : slice_get s.routers y ≡ Some receiver
  pub to : Interface
  pub is_to : slice_get receiver.interfaces j ≡ Some to
  pub accepted : to.admit.accept ≤ quality_at to.admit from.addrs s.end

-- two interfaces are joined: an arc that is admitted leads each way; there and back are the metrics
pub record Joins (s : Scenario) (x i y j : ℕ) (there back : Metric) : Type 0 where
  pub out : Leads s x i y j there
  pub home : Leads s y j x i back
  pub out_admitted : IsAdmitted s x i y j
  pub home_admitted : IsAdmitted s y j x i

-- two routers have interfaces that are joined
abbrev pub Adjacent : Scenario → ℕ → ℕ → Type 0
Adjacent s x y = (i j : ℕ) × (there back : Metric) × Joins s x i y j there back

-- the metric from x to y is the least over their joined interfaces
pub record IsMetric (s : Scenario) (x y : ℕ) (m : Metric) : Type 0 where
  pub some : (i j : ℕ) × (back : Metric) × Joins s x i y j m back
  pub least : (i j : ℕ) (there back : Metric) → Joins s x i y j there back → metric_value m ≤ metric_value there

-- the same as a cost
abbrev pub HopCosts : Scenario → ℕ → ℕ → ℕ → Type 0
HopCosts s x y c = (m : Metric) × IsMetric s x y m × (metric_value m ≡ c)

-- a chain of joined interfaces leads from x to the router
pub data Joined (s : Scenario) (x : ℕ) : ℕ → Type 0 where
  Itself : Joined s x x
  By : {v w : ℕ} → Joined s x v → Adjacent s v w → Joined s x w

-- Routers

-- router x has these settings
abbrev pub Router : Scenario → ℕ → RouterSettings → Type 0
Router s x r = slice_get s.routers x ≡ Some r

-- router x is willing to route
abbrev pub IsWillingRouter : Scenario → ℕ → Type 0
IsWillingRouter s x = (r : RouterSettings) × Router s x r × (r.willing.routing ≢ 0)

-- an address of router x
abbrev pub AddressOf : Scenario → ℕ → Addr4 → Type 0
AddressOf s x a = (r : RouterSettings) × Router s x r × HasAddress r a

-- the originator of router x
abbrev pub OriginatorOf : Scenario → ℕ → Addr4 → Type 0
OriginatorOf s x a = (r : RouterSettings) × Router s x r × IsOriginator r a

-- router x attaches the network, at that cost
abbrev pub Attaches : Scenario → ℕ → NetAddr → ℕ → Type 0
Attaches s x net c =
    (r : RouterSettings) × Router s x r × (att : Attached4) × Contains r.attached att × (att.net ≡ net) × (metric_value att.metric ≡ c)

-- what is true of each scenario that its reading accepts
pub record IsSoundScenario (s : Scenario) : Type 0 where
  -- each address is one router's, on one interface
  pub addresses : (x y i j : ℕ) (r q : RouterSettings) (a : Addr4) → Router s x r → Router s y q → HasAddressOn r i a →
      HasAddressOn q j a → (x ≡ y) × (i ≡ j)
  -- no attached network is a router's address
  pub networks : (x y c : ℕ) (net : NetAddr) (a : Addr4) → Attaches s x net c → AddressOf s y a → net ≢ host a
  -- each router has an originator
  pub originators : (x : ℕ) (r : RouterSettings) → Router s x r → (a : Addr4) × IsOriginator r a
  -- an arc leads between interfaces of two routers
  pub ends : (x i y j : ℕ) (m : Metric) → Leads s x i y j m → (x ≢ y) × ((r : RouterSettings) × Router s x r) × ((q : RouterSettings) × Router s y q)
  -- one arc at most leads from an interface to another
  pub arcs : (x i y j : ℕ) (m n : Metric) → Leads s x i y j m → Leads s x i y j n → m ≡ n

-- Least costs

-- the least cost from router x over walks whose inner routers are willing to route: to an address of another router, or to a
-- network that x doesn't attach, by way of a gateway
pub data RadioLeast (s : Scenario) (x : ℕ) : NetAddr → ℕ → Type 0 where
  To_router : {y c : ℕ} {a : Addr4} → y ≢ x → AddressOf s y a → LeastWilling (HopCosts s) (IsWillingRouter s) x y c → RadioLeast s x (host a) c
  To_network : {net : NetAddr} {c : ℕ} → ((k : ℕ) → Attaches s x net k → ⊥) → LeastToNet (HopCosts s) (IsWillingRouter s) (Attaches s) x net c →
      RadioLeast s x net c

-- the radio graph as a value: one pair for each direction of two joined interfaces, and for each router the least number among
-- those that it is joined with
pub record IsRadioGraph (s : Scenario) (g : RadioGraph) : Type 0 where
  pub pairs : (p : Pair) → Contains g.pairs p ↔ ((back : Metric) × Joins s p.from p.from_iface p.to p.to_iface p.metric back)
  pub once : (k l : ℕ) (p : Pair) → slice_get g.pairs k ≡ Some p → slice_get g.pairs l ≡ Some p → k ≡ l
  pub routers : length g.parts ≡ length s.routers
  pub parts : (x part : ℕ) → slice_get g.parts x ≡ Some part → Joined s x part × ((y : ℕ) → Joined s x y → part ≤ y)
