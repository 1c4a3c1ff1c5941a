-- How a flood goes on, frame by frame.
use Rattle.std.specs.Prelude.{◌≡◌, ℕ, ◌<◌, ◌≤◌, ◌++◌, ◌∷◌, [], List, Contains, All, Option, Some, None, length}
use Rattle.std.specs.List.{AllPairs}
use Rattle.mesh_atoms.specs.declared.addr.Addr4.{Addr4}
use Rattle.mesh_atoms.specs.declared.settings.RadioArc.{RadioArc}
use Rattle.mesh_atoms.specs.declared.settings.RouterSettings.{RouterSettings}
use Rattle.mesh_atoms.specs.declared.settings.Scenario.{Scenario}
use Rattle.mesh_atoms.specs.declared.tc.Tc.{Tc}
use Rattle.mesh_atoms.specs.Radio.{Router}
use Rattle.mesh_atoms.specs.Settled.{At, AreStates}
use Rattle.mesh_atoms.specs.State.{State}
use Rattle.mesh_atoms.specs.Validity.{IsLeastCode}
use Rattle.mesh_machine.specs.declared.frame.Frame.{Frame}
use Rattle.mesh_machine.specs.Machine.{Hear, Step}
use Rattle.mesh_machine.specs.Sendable.{IsSendable}
use Rattle.mesh_wire.specs.Writes.{WritesLeastTc}
use Rattle.mesh_probe.specs.declared.coverage.Coverage.{Coverage}
use Rattle.mesh_probe.specs.declared.coverage.Probe.TheVariants.{Done}
use Rattle.mesh_probe.specs.declared.coverage.Sending.{Sending}
use Rattle.mesh_probe.specs.declared.transmission.Transmission.{Transmission}
use Rattle.mesh_probe.specs.Flood.{hearers_of, IsInterfaceSender, BecomesAt, AllHear, sent_by}
use Rattle.mesh_probe.specs.Laws.{AreSentApart, tc_key}
use Rattle.mesh_probe.specs.Probes.{IsKnown, IsProbeTc, TellsFlood}

-- What is heard

-- the routers of the scenario, none of which had an event after now: each can hear a frame at now
pub record CanHear (s : Scenario) (states : List State) (now : ℕ) : Type 0 where
  pub routers : AreStates s states
  pub lasts : (x : ℕ) (p : State) → At states x p → p.last ≤ now

-- an interface of a router of the scenario sends the frame
abbrev pub IsOfInterface : Scenario → Transmission → Type 0
IsOfInterface s t = (r : RouterSettings) × Router s t.router r × (t.frame.iface < length r.interfaces)

-- a router hears a frame on interface j, and what it sends comes behind what was sent before
pub record HearsFrame (now : ℕ) (sender : Addr4) (bytes : List ℕ) (w j : ℕ) (old new : List State) (before after : List Transmission) :
    Type 0 where
  pub p : State
  pub q : State
  pub sent : List Frame
  pub at : At old w p
  pub step : Step p (Hear (record { now = now; iface = j; sender = sender }) bytes) sent q
  pub becomes : BecomesAt old w q new
  pub sends : after ≡ before ++ sent_by w sent
  pub sendable : All (IsSendable p.settings) sent
  pub settings : q.settings ≡ p.settings
  pub last : q.last ≤ now

-- the arc leads to the router, from an interface that sends
pub record BringsTo (sends : List Sending) (z : ℕ) (arc : RadioArc) : Type 0 where
  pub to : arc.to ≡ z
  pub sent : Contains sends (record { router = arc.from; iface = arc.from_iface })

-- How far a flood has come

-- of the frames that wait at first, and those that are sent in turn: which are heard, the states after that, and which still wait
pub data FloodsTo (s : Scenario) (now : ℕ) (old : List State) (first : List Transmission) :
    List Transmission → List State → List Transmission → Type 0 where
  Nothing_heard : FloodsTo s now old first [] old first
  One_more : {heard rest more : List Transmission} {f : Transmission} {mid new : List State} (sender : Addr4) →
      FloodsTo s now old first heard mid (f ∷ rest) → IsInterfaceSender s f.router f.frame.iface sender →
      AllHear now sender f.frame.bytes (hearers_of s.arcs f.router f.frame.iface) mid new more →
      FloodsTo s now old first (heard ++ (f ∷ [])) new (rest ++ more)

-- however far the flood of these frames comes, no router sends twice on an interface
abbrev pub SendsOnceFrom : Scenario → ℕ → List State → List Transmission → Type 0
SendsOnceFrom s now old first =
    (heard waiting : List Transmission) (mid : List State) → FloodsTo s now old first heard mid waiting →
    AllPairs AreSentApart (heard ++ waiting)

-- the sends of a coverage are the frames of the flood of a router's TC with its number, in order
abbrev pub TellsFrames : Scenario → List State → ℕ → ℕ → List State → Coverage → Type 0
TellsFrames s old now origin new c = TellsFlood s old now origin new (Done c)

-- The number

-- the number is the least of a TC of that originator that no router has noted; there is none exactly where all up to 65,535 are noted
abbrev pub IsLeastUnknown : List State → Addr4 → Option ℕ → Type 0
IsLeastUnknown states o None = (n : ℕ) → n < 65536 → IsKnown states (tc_key o n)
IsLeastUnknown states o (Some number) =
    (IsKnown states (tc_key o number) → ⊥) × ((n : ℕ) → n < number → IsKnown states (tc_key o n))

-- The first frame

-- the octets with which a router in that state probes: they are written here, so they are the least form
pub record IsProbeFrame (p : State) (number : ℕ) (bytes : List ℕ) : Type 0 where
  pub tc : Tc
  pub tc_is : IsProbeTc p number tc
  pub code : ℕ
  pub is_code : IsLeastCode p.settings.times.topology_hold code
  pub writes : WritesLeastTc tc p.settings.times.tc_hop_limit (code ∷ []) bytes
  pub octet : p.settings.times.tc_hop_limit < 256
