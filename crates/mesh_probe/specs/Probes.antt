-- What a probe of a network is, and what it tells.
use Rattle.std.specs.Prelude.{◌≡◌, ◌≢◌, ℕ, ◌<◌, ◌≤◌, ◌↔◌, ◌∷◌, [], List, Contains, Some, length, map, AllPairs, true}
use Rattle.mesh_atoms.specs.declared.addr.Addr4.{Addr4}
use Rattle.mesh_atoms.specs.declared.settings.Scenario.{Scenario}
use Rattle.mesh_atoms.specs.declared.tc.Tc.{Tc}
use Rattle.mesh_atoms.specs.declared.tuples.FloodKey.{FloodKey}
use Rattle.mesh_atoms.specs.Hello.{IsRoundedUp}
use Rattle.mesh_atoms.specs.Radio.{Joined, OriginatorOf}
use Rattle.mesh_atoms.specs.Settled.{At, AreStates}
use Rattle.mesh_atoms.specs.Sound.{Sound}
use Rattle.mesh_atoms.specs.Validity.{IsLeastCode}
use Rattle.mesh_atoms.specs.State.{State, IsOriginator}
use Rattle.mesh_flood.specs.Standing.{HasNoted, HasFullSet}
use Rattle.mesh_paths.specs.SettledRoutes.{IsSettledNetwork}
use Rattle.mesh_probe.specs.declared.coverage.Coverage.{Coverage}
use Rattle.mesh_probe.specs.declared.coverage.Probe.{Probe}
use Rattle.mesh_probe.specs.declared.coverage.Probe.TheVariants.{NoNumber, Done}
use Rattle.mesh_probe.specs.declared.coverage.Sending.{Sending}
use Rattle.mesh_probe.specs.declared.transmission.Transmission.{Transmission}
use Rattle.mesh_probe.specs.Flood.{hearers_of}
use Rattle.mesh_probe.specs.Laws.{FloodOf, AllWillFlood, tc_key}

-- the states are those of the scenario's routers, each sound, and the last event of each was at that moment
pub record AreRoutersAt (s : Scenario) (states : List State) (now : ℕ) : Type 0 where
  pub routers : AreStates s states
  pub sound : (x : ℕ) (p : State) → At states x p → Sound p
  pub moment : (x : ℕ) (p : State) → At states x p → p.last ≡ now

-- the list has exactly the numbers with the property, in ascending order
pub record ListsNumbers (P : ℕ → Type 0) (list : List ℕ) : Type 0 where
  pub each : (n : ℕ) → Contains list n ↔ P n
  pub ascending : AllPairs ◌<◌ list

-- The number

-- some router has noted the message, in a received, a processed or a forwarded tuple
abbrev pub IsKnown : List State → FloodKey → Type 0
IsKnown states key = (x : ℕ) × (q : State) × At states x q × HasNoted q.bases.noted key

-- some router has noted a TC of router origin's with that number
abbrev pub IsTcNoted : Scenario → List State → ℕ → ℕ → Type 0
IsTcNoted s states origin number =
    (o : Addr4) × OriginatorOf s origin o × IsKnown states (tc_key o number)

-- the number is the least that isn't taken; there is none exactly where all up to 65,535 are
abbrev pub HasLeastNumber : Scenario → List State → ℕ → Probe → Type 0
HasLeastNumber s states origin NoNumber = (n : ℕ) → n < 65536 → IsTcNoted s states origin n
HasLeastNumber s states origin (Done c) =
    (IsTcNoted s states origin c.number → ⊥) × ((n : ℕ) → n < c.number → IsTcNoted s states origin n)

-- The flood

-- the TC with which a router in that state probes: complete, with all its advertised rows (RFC 7181, section 16.1)
pub record IsProbeTc (p : State) (number : ℕ) (tc : Tc) : Type 0 where
  pub originator : IsOriginator p.settings tc.originator
  pub sequence : tc.sequence ≡ number
  pub ansn : tc.ansn ≡ p.ansn
  pub complete : tc.complete ≡ true
  pub validity : IsRoundedUp p.settings.times.topology_hold tc.validity
  pub interval : (time : ℕ) × (tc.interval ≡ Some time) × IsRoundedUp p.settings.times.tc time
  pub rows : tc.rows ≡ p.rows

-- the flood of such a TC from router origin, with the hop limit of its settings and one validity for every distance: the frames that
-- were heard, and the states after it
pub record IsProbeFlood (s : Scenario) (old : List State) (now origin number : ℕ) (heard : List Transmission) (new : List State) :
    Type 0 where
  pub p : State
  pub at : At old origin p
  pub tc : Tc
  pub tc_is : IsProbeTc p number tc
  pub flood : FloodOf s old now origin tc p.settings.times.tc_hop_limit heard new
  pub everywhere : (code : ℕ) × IsLeastCode p.settings.times.topology_hold code × (flood.tc_is.validity ≡ code ∷ [])

-- the router and the interface that send a frame
abbrev pub sending_of : Transmission → Sending
sending_of t = record { router = t.router; iface = t.frame.iface }

-- the sends are the frames of such a flood, in order
abbrev pub TellsFlood : Scenario → List State → ℕ → ℕ → List State → Probe → Type 0
TellsFlood s old now origin new NoNumber = Unit {0}
TellsFlood s old now origin new (Done c) =
    (heard : List Transmission) × IsProbeFlood s old now origin c.number heard new × (c.sends ≡ map sending_of heard)

-- Whom it reaches

-- an arc leads to the router from an interface that sends
abbrev pub HearsOne : Scenario → List Sending → ℕ → Type 0
HearsOne s sends z = (f : Sending) × (j : ℕ) × Contains sends f × Contains (hearers_of s.arcs f.router f.iface) (z, j)

-- exactly the other routers that hear a frame, in ascending order
abbrev pub AreReached : Scenario → ℕ → Coverage → Type 0
AreReached s origin c = ListsNumbers (λ z. (z ≢ origin) × HearsOne s c.sends z) c.reached

-- what holds of a coverage, where there is one
abbrev pub IfDone : (Coverage → Type 0) → Probe → Type 0
IfDone P NoNumber = Unit {0}
IfDone P (Done c) = P c

-- Laws

-- in a settled network whose routers are all willing to flood and have room in all sets of messages, each router that is joined
-- with the origin is reached, where the origin's hop limit is no less than the number of routers
abbrev pub ReachesAll : Scenario → List State → ℕ → ℕ → Coverage → Type 0
ReachesAll s states now origin c =
    (p : State) → At states origin p → IsSettledNetwork s states now → AllWillFlood s →
    length s.routers ≤ p.settings.times.tc_hop_limit → ((x : ℕ) (q : State) → At states x q → HasFullSet q.bases.noted → ⊥) →
    (z : ℕ) → Joined s origin z → z ≢ origin → Contains c.reached z

-- no router sends twice on an interface
abbrev pub SendsOnce : Coverage → Type 0
SendsOnce c = AllPairs ◌≢◌ c.sends

-- the same of whatever a probe is, by what it is and tells
abbrev pub ProbesReach : Type 0
ProbesReach =
    (s : Scenario) (old new : List State) (now origin : ℕ) (probe : Probe) → HasLeastNumber s old origin probe →
    TellsFlood s old now origin new probe → IfDone (AreReached s origin) probe → IfDone (ReachesAll s old now origin) probe

-- of whatever a probe is and tells, no router sends twice on an interface
abbrev pub ProbesSendOnce : Type 0
ProbesSendOnce =
    (s : Scenario) (old new : List State) (now origin : ℕ) (probe : Probe) → AreStates s old → TellsFlood s old now origin new probe →
    IfDone SendsOnce probe
