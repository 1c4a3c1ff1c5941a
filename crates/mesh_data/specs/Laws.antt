-- What trips come to.
use Rattle.std.specs.Prelude.{◌≡◌, ◌≢◌, ℕ, ◌≤◌, ◌⊎◌, List}
use Rattle.mesh_atoms.specs.declared.addr.Addr4.{Addr4}
use Rattle.mesh_atoms.specs.declared.addr.NetAddr.{NetAddr}
use Rattle.mesh_atoms.specs.declared.settings.RouterSettings.{RouterSettings}
use Rattle.mesh_atoms.specs.declared.settings.Scenario.{Scenario}
use Rattle.mesh_atoms.specs.Base.{host}
use Rattle.mesh_atoms.specs.Radio.{Joined, Router, IsWillingRouter, AddressOf, Attaches, RadioLeast}
use Rattle.mesh_atoms.specs.Settled.{At}
use Rattle.mesh_atoms.specs.Sound.{Sound}
use Rattle.mesh_atoms.specs.State.{State}
use Rattle.mesh_paths.specs.SettledRoutes.{IsSettledNetwork}
use Rattle.mesh_atoms.specs.NextHop.{Holds}
use Rattle.mesh_data.specs.declared.trip.End.TheVariants.{Arrived, NoArc, TooFar}
use Rattle.mesh_data.specs.declared.trip.Trip.{Trip}
use Rattle.mesh_data.specs.Trips.{IsTrip}

-- the address is router y's, and the least cost to it is c
pub record LiesAt (s : Scenario) (from : ℕ) (a : Addr4) (y c : ℕ) : Type 0 where
  pub owner : AddressOf s y a
  pub least : RadioLeast s from (host a) c

-- every router is willing to route, no router has the address, and a router joined with `from` attaches a network that has it
pub record HasNetwork (s : Scenario) (from : ℕ) (a : Addr4) : Type 0 where
  pub willing : (x : ℕ) (r : RouterSettings) → Router s x r → IsWillingRouter s x
  pub no_router : (x : ℕ) → AddressOf s x a → ⊥
  pub gateway : ℕ
  pub joined : Joined s from gateway
  pub net : NetAddr
  pub metric : ℕ
  pub attaches : Attaches s gateway net metric
  pub holds : Holds net a

-- every router is willing to route, no router has the address, and of the networks that have it and that routers joined with
-- `from` attach, this one has the longest prefix
pub record IsNetworkOf (s : Scenario) (from : ℕ) (a : Addr4) (net : NetAddr) : Type 0 where
  pub willing : (x : ℕ) (r : RouterSettings) → Router s x r → IsWillingRouter s x
  pub no_router : (x : ℕ) → AddressOf s x a → ⊥
  pub gateway : ℕ
  pub joined : Joined s from gateway
  pub metric : ℕ
  pub attaches : Attaches s gateway net metric
  pub holds : Holds net a
  pub longest : (x c : ℕ) (other : NetAddr) → Joined s from x → Attaches s x other c → Holds other a → other.prefix ≤ net.prefix

-- of the routers joined with `from`, one alone attaches the network
abbrev pub HasOneGateway : Scenario → ℕ → NetAddr → Type 0
HasOneGateway s from net = (x y c k : ℕ) → Joined s from x → Joined s from y → Attaches s x net c → Attaches s y net k → x ≡ y

-- a trip to a network arrives at a router that attaches it: where `from` does, at its metric there; where one router alone does,
-- at the least cost
pub record ArrivesAt (s : Scenario) (from : ℕ) (net : NetAddr) (trip : Trip) : Type 0 where
  pub arrived : trip.end ≡ Arrived
  pub there : (k : ℕ) × Attaches s trip.last net k
  pub here : (k : ℕ) → Attaches s from net k → trip.metric ≡ k
  pub least : ((k : ℕ) → Attaches s from net k → ⊥) → HasOneGateway s from net → RadioLeast s from net trip.metric

-- each router is sound
abbrev pub AreSound : List State → Type 0
AreSound states = (x : ℕ) (p : State) → At states x p → Sound p

module _ (s : Scenario) (states : List State) (from : ℕ) (a : Addr4) (trip : Trip) where
  -- over sound routers no other trip leads from there to the address
  abbrev pub IsOnly : Type 0
  IsOnly = AreSound states → (other : Trip) → IsTrip s states from a other → other ≡ trip

  -- in a settled network a trip to another router's address, to which the radio graph has a least cost, arrives there at that cost
  abbrev pub ReachesRouter : Type 0
  ReachesRouter =
      (now y c : ℕ) → IsSettledNetwork s states now → LiesAt s from a y c →
      (trip.end ≡ Arrived) × (trip.last ≡ y) × (trip.metric ≡ c)

  -- one to an attached network arrives at a router that attaches the longest of those that have the address
  abbrev pub ReachesNetwork : Type 0
  ReachesNetwork =
      (now : ℕ) → IsSettledNetwork s states now → HasNetwork s from a →
      (net : NetAddr) × IsNetworkOf s from a net × ArrivesAt s from net trip

  -- and none to such an address ends for want of an arc, or goes too far
  abbrev pub NeverStrays : Type 0
  NeverStrays =
      (now : ℕ) → IsSettledNetwork s states now → ((y c : ℕ) × LiesAt s from a y c) ⊎ HasNetwork s from a →
      (trip.end ≢ NoArc) × (trip.end ≢ TooFar)

-- what holds of each trip
abbrev pub OfEachTrip : (Scenario → List State → ℕ → Addr4 → Trip → Type 0) → Type 0
OfEachTrip P =
    (s : Scenario) (states : List State) (from : ℕ) (a : Addr4) (trip : Trip) →
    IsTrip s states from a trip → P s states from a trip
