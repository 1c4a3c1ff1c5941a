-- What one router does, as the code finds it.
use Rattle.std.specs.Prelude.{◌≡◌, ℕ, ◌≤◌, ◌<◌, ◌*◌, ◌⊎◌, List, Contains, Option, Some, None, length, cond, nat_lt}
use Rattle.std.specs.List.{AllWithin, sum_by}
use Rattle.mesh_atoms.specs.declared.addr.Addr4.{Addr4}
use Rattle.mesh_atoms.specs.declared.graphs.Route.{Route}
use Rattle.mesh_atoms.specs.declared.codes.metric.Metric.{Metric}
use Rattle.mesh_atoms.specs.declared.settings.Attached4.{Attached4}
use Rattle.mesh_atoms.specs.declared.settings.RadioArc.{RadioArc}
use Rattle.mesh_atoms.specs.declared.settings.RouterSettings.{RouterSettings}
use Rattle.mesh_atoms.specs.declared.settings.Scenario.{Scenario}
use Rattle.mesh_atoms.specs.Codes.Codes.{metric_value}
use Rattle.mesh_atoms.specs.Radio.{Router, AddressOf}
use Rattle.mesh_atoms.specs.State.{State, HasAddressOn}
use Rattle.mesh_atoms.specs.NextHop.{Holds, IsLongest, HasNoRouteTo}
use Rattle.mesh_data.specs.declared.trip.Hop.{Hop}
use Rattle.mesh_data.specs.declared.decisions.Decision.{Decision}
use Rattle.mesh_data.specs.declared.decisions.Decision.TheVariants.{Here, Network, Nowhere, Via}
use Rattle.mesh_data.specs.declared.decisions.Move.{Move}
use Rattle.mesh_data.specs.declared.decisions.Move.TheVariants.{Stops, Hops}
use Rattle.mesh_data.specs.declared.trip.End.TheVariants.{NoArc}
use Rattle.mesh_data.specs.Trips.{LeadsToNext, Delivers, TakesRoute, HasNoWay, IsHop, AreChained, EndsWith}

-- of the first attached networks, one that has the address with the longest prefix
abbrev pub IsLongestOf : List Attached4 → ℕ → Addr4 → Option Attached4 → Type 0
IsLongestOf xs n a None = AllWithin (λ t. Holds t.net a → ⊥) xs 0 n
IsLongestOf xs n a (Some t) = Contains xs t × Holds t.net a × AllWithin (λ u. Holds u.net a → u.net.prefix ≤ t.net.prefix) xs 0 n

-- the next network in place of the best so far, where it has the address and a prefix no shorter
abbrev pub IsLongerOf : Addr4 → Option Attached4 → Attached4 → Option Attached4 → Type 0
IsLongerOf a best t result =
    (Holds t.net a × ((b : Attached4) → best ≡ Some b → b.net.prefix ≤ t.net.prefix) × (result ≡ Some t))
    ⊎ (((Holds t.net a → ⊥) ⊎ ((b : Attached4) × (best ≡ Some b) × (t.net.prefix ≤ b.net.prefix))) × (result ≡ best))

-- by the longest route and the longest own network: the longer of the two
abbrev pub longer_of : Option Route → Option Attached4 → Decision
longer_of None None = Nowhere
longer_of None (Some t) = Network t.metric
longer_of (Some row) None = Via row
longer_of (Some row) (Some t) = cond (nat_lt row.dest.prefix t.net.prefix) (Network t.metric) (Via row)

-- by these routes and these own networks
abbrev pub IsDecisionBy : List Route → List Attached4 → Addr4 → Decision → Type 0
IsDecisionBy routes own a Here = ⊥
IsDecisionBy routes own a (Network m) =
    (t : Attached4) × Contains own t × Holds t.net a
    × ((u : Attached4) → Contains own u → Holds u.net a → u.net.prefix ≤ t.net.prefix)
    × ((r : Route) → Contains routes r → Holds r.dest a → r.dest.prefix < t.net.prefix) × (t.metric ≡ m)
IsDecisionBy routes own a Nowhere = HasNoRouteTo routes a × ((u : Attached4) → Contains own u → Holds u.net a → ⊥)
IsDecisionBy routes own a (Via row) =
    IsLongest routes a row × ((u : Attached4) → Contains own u → Holds u.net a → u.net.prefix ≤ row.dest.prefix)

-- at router x
abbrev pub IsDecision : Scenario → List State → Addr4 → ℕ → Decision → Type 0
IsDecision s states a x Here = AddressOf s x a
IsDecision s states a x (Network m) = (AddressOf s x a → ⊥) × Delivers s states a x (metric_value m)
IsDecision s states a x Nowhere = (AddressOf s x a → ⊥) × HasNoWay s states a x
IsDecision s states a x (Via row) = (AddressOf s x a → ⊥) × TakesRoute s states a x row

-- interface j of router y has the address
abbrev pub IsAddressAt : Scenario → ℕ → ℕ → Addr4 → Type 0
IsAddressAt s y j a = (q : RouterSettings) × Router s y q × HasAddressOn q j a

-- the arc leads from router x by the route's interface to one that has the next hop's address
abbrev pub IsArcOf : Scenario → ℕ → Route → RadioArc → Type 0
IsArcOf s x row arc = (arc.from ≡ x) × (arc.from_iface ≡ row.iface) × IsAddressAt s arc.to arc.to_iface row.next

-- by the route from router x
abbrev pub IsMoveBy : Scenario → ℕ → Route → Move → Type 0
IsMoveBy s x row (Stops end k) = (end ≡ NoArc) × (k ≡ 0) × ((y : ℕ) (m : Metric) → LeadsToNext s x row y m → ⊥)
IsMoveBy s x row (Hops hop) =
    (hop.from ≡ x) × (hop.iface ≡ row.iface) × (hop.metric ≤ 16776960)
    × ((m : Metric) × LeadsToNext s x row hop.to m × (hop.metric ≡ metric_value m))

-- what a router does before as many hops were made as there are routers
abbrev pub IsMove : Scenario → List State → Addr4 → ℕ → Move → Type 0
IsMove s states a x (Stops end k) = (n : ℕ) → n < length s.routers → EndsWith s states a x n end k
IsMove s states a x (Hops hop) = IsHop s states a hop × (hop.from ≡ x) × (hop.metric ≤ 16776960)

-- the hops that were made so far
pub record IsOnTheWay (s : Scenario) (states : List State) (a : Addr4) (from x : ℕ) (hops : List Hop) (metric made : ℕ) :
    Type 0 where
  pub chain : AreChained from hops x
  pub each : (hop : Hop) → Contains hops hop → IsHop s states a hop
  pub count : length hops ≡ made
  pub sum : metric ≡ sum_by (λ h. h.metric) hops
  pub small : metric ≤ made * 16776960
  pub within : x < length s.routers
