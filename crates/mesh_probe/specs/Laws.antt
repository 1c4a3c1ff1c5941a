-- Whom a flood reaches, and what is sent in it.
use Rattle.std.specs.Prelude.{◌≡◌, ◌≢◌, ℕ, ◌<◌, ◌≤◌, List, Contains, None, length}
use Rattle.std.specs.List.{AllPairs}
use Rattle.mesh_atoms.specs.declared.addr.Addr4.{Addr4}
use Rattle.mesh_atoms.specs.declared.settings.RouterSettings.{RouterSettings}
use Rattle.mesh_atoms.specs.declared.settings.Scenario.{Scenario}
use Rattle.mesh_atoms.specs.declared.tc.Tc.{Tc}
use Rattle.mesh_atoms.specs.declared.tuples.FloodKey.{FloodKey}
use Rattle.mesh_atoms.specs.declared.limits.TheConstants.{MOST_TUPLES}
use Rattle.mesh_atoms.specs.Base.{base_of, find, flood_eq}
use Rattle.mesh_atoms.specs.Radio.{Joined, Router}
use Rattle.mesh_atoms.specs.Settled.{At, AreStates}
use Rattle.mesh_atoms.specs.Validity.{IsTimeValue}
use Rattle.mesh_atoms.specs.State.{State, NotedMessages, IsOriginator}
use Rattle.mesh_wire.specs.Writes.{WritesTc}
use Rattle.mesh_paths.specs.SettledRoutes.{IsSettledNetwork}
use Rattle.mesh_machine.specs.Frames.{on_each}
use Rattle.mesh_probe.specs.declared.transmission.Transmission.{Transmission}
use Rattle.mesh_probe.specs.Flood.{sent_by, hearers_of, Flood}

-- The flood of a TC

-- the octets are a TC of a router in state p, with that hop limit, however it is spelled
pub record IsTcOf (p : State) (tc : Tc) (limit : ℕ) (bytes : List ℕ) : Type 0 where
  pub validity : List ℕ
  pub times : IsTimeValue validity
  pub writes : WritesTc tc limit validity bytes
  pub own : IsOriginator p.settings tc.originator
  pub octet : limit < 256

-- the flood of a TC from its originator, which sends it on each of its interfaces: the frames that were heard, and the states after it
pub record FloodOf (s : Scenario) (states : List State) (now origin : ℕ) (tc : Tc) (limit : ℕ) (heard : List Transmission)
    (new : List State) : Type 0 where
  pub p : State
  pub at : At states origin p
  pub bytes : List ℕ
  pub tc_is : IsTcOf p tc limit bytes
  pub flood : Flood s now states (sent_by origin (on_each (length p.settings.interfaces) bytes)) new heard

-- Premises

-- the key of a TC of that originator with that sequence number
abbrev pub tc_key : Addr4 → ℕ → FloodKey
tc_key originator number = record { kind = 1; originator = originator; sequence = number }

-- the message's key
abbrev pub key_of_tc : Tc → FloodKey
key_of_tc tc = tc_key tc.originator tc.sequence

-- neither a Received nor a Forwarded tuple is the message's, and none of these sets is full
pub record IsUnknown (key : FloodKey) (noted : NotedMessages) : Type 0 where
  pub received : (j : ℕ) → find flood_eq (base_of noted.received j) key ≡ None
  pub forwarded : find flood_eq noted.forwarded key ≡ None
  pub room_received : (j : ℕ) → length (base_of noted.received j) < MOST_TUPLES
  pub room_forwarded : length noted.forwarded < MOST_TUPLES

-- no router knows the message, and each has room for it
abbrev pub AreUnknown : List State → Tc → Type 0
AreUnknown states tc = (x : ℕ) (q : State) → At states x q → IsUnknown (key_of_tc tc) q.bases.noted

-- each router is willing to flood
abbrev pub AllWillFlood : Scenario → Type 0
AllWillFlood s = (x : ℕ) (r : RouterSettings) → Router s x r → r.willing.flooding ≢ 0

-- Laws

-- the router hears a frame of the flood
abbrev pub IsHeardBy : Scenario → List Transmission → ℕ → Type 0
IsHeardBy s heard z = (f : Transmission) × (j : ℕ) × Contains heard f × Contains (hearers_of s.arcs f.router f.frame.iface) (z, j)

-- in a settled network whose routers are all willing to flood, a TC whose hop limit is no less than the number of routers, and
-- that no router knows and each has room for, is heard by each router that is joined with its originator
abbrev pub FloodReaches : Type 0
FloodReaches =
    (s : Scenario) (states : List State) (now origin : ℕ) (tc : Tc) (limit : ℕ) (heard : List Transmission) (new : List State) →
    IsSettledNetwork s states now → AllWillFlood s → length s.routers ≤ limit → AreUnknown states tc →
    FloodOf s states now origin tc limit heard new → (z : ℕ) → Joined s origin z → z ≢ origin → IsHeardBy s heard z

-- two frames are of different routers or interfaces
abbrev pub AreSentApart : Transmission → Transmission → Type 0
AreSentApart f g = f.router ≡ g.router → f.frame.iface ≡ g.frame.iface → ⊥

-- whatever the network and the sets, no router sends a TC twice on an interface
abbrev pub FloodSendsOnce : Type 0
FloodSendsOnce =
    (s : Scenario) (states : List State) (now origin : ℕ) (tc : Tc) (limit : ℕ) (heard : List Transmission) (new : List State) →
    AreStates s states → FloodOf s states now origin tc limit heard new → AllPairs AreSentApart heard
