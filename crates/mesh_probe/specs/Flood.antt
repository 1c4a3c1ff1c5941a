-- A flood: a router sends a TC, and each frame is heard by all who can hear it before the next is taken.
use Rattle.std.specs.Prelude.{◌≡◌, ◌≢◌, ℕ, ◌&&◌, ◌++◌, ◌∷◌, [], List, map, Some, Bool, cond, nat_eq, slice_get}
use Rattle.mesh_atoms.specs.declared.addr.Addr4.{Addr4}
use Rattle.mesh_atoms.specs.declared.settings.Interface.{Interface}
use Rattle.mesh_atoms.specs.declared.settings.RadioArc.{RadioArc}
use Rattle.mesh_atoms.specs.declared.settings.RouterSettings.{RouterSettings}
use Rattle.mesh_atoms.specs.declared.settings.Scenario.{Scenario}
use Rattle.mesh_atoms.specs.Radio.{Router}
use Rattle.mesh_atoms.specs.Settled.{At}
use Rattle.mesh_atoms.specs.State.{State}
use Rattle.mesh_machine.specs.declared.frame.Frame.{Frame}
use Rattle.mesh_machine.specs.Machine.{Hear, Step}
use Rattle.mesh_probe.specs.declared.transmission.Transmission.{Transmission}

-- Who hears whom

-- the arc leads from interface i of router x
abbrev pub is_arc_from : RadioArc → ℕ → ℕ → Bool
is_arc_from arc x i = nat_eq arc.from x && nat_eq arc.from_iface i

-- the routers that hear a frame of interface i of router x, each with the interface on which it does: the ends of its arcs, in
-- their order
abbrev pub hearers_of : List RadioArc → ℕ → ℕ → List (ℕ × ℕ)
hearers_of [] x i = []
hearers_of (arc ∷ arcs) x i = cond (is_arc_from arc x i) ((arc.to, arc.to_iface) ∷ hearers_of arcs x i) (hearers_of arcs x i)

-- the first address of interface i of router x, which is the sender of its frames
abbrev pub IsInterfaceSender : Scenario → ℕ → ℕ → Addr4 → Type 0
IsInterfaceSender s x i a =
    (r : RouterSettings) × Router s x r × (iface : Interface)
    × (slice_get r.interfaces i ≡ Some iface) × (slice_get iface.addrs 0 ≡ Some a)

-- the frames that a router sends
abbrev pub sent_by : ℕ → List Frame → List Transmission
sent_by x frames = map (λ f. record { router = x; frame = f }) frames

-- The flood

-- the states where router x has become that, and nothing else has changed
pub record BecomesAt (old : List State) (x : ℕ) (p : State) (new : List State) : Type 0 where
  pub at : At new x p
  pub others : (y : ℕ) → y ≢ x → slice_get new y ≡ slice_get old y

-- a frame of these octets is heard by these routers on these interfaces, in order; the frames that they send
pub data AllHear (now : ℕ) (sender : Addr4) (bytes : List ℕ) :
    List (ℕ × ℕ) → List State → List State → List Transmission → Type 0 where
  All_have_heard : {states : List State} → AllHear now sender bytes [] states states []
  Next_hears : {w j : ℕ} {hearers : List (ℕ × ℕ)} {old mid new : List State} {p q : State} {sent : List Frame}
      {more : List Transmission} →
      At old w p → Step p (Hear (record { now = now; iface = j; sender = sender }) bytes) sent q → BecomesAt old w q mid →
      AllHear now sender bytes hearers mid new more → AllHear now sender bytes ((w, j) ∷ hearers) old new (sent_by w sent ++ more)

-- frames wait, and are heard one after the other at one moment, first sent first, until none is left; the frames that were heard.
-- Losses, delays and qualities play no part
pub data Flood (s : Scenario) (now : ℕ) : List State → List Transmission → List State → List Transmission → Type 0 where
  No_frame_waits : {states : List State} → Flood s now states [] states []
  First_frame : {f : Transmission} {rest more heard : List Transmission} {old mid new : List State} (sender : Addr4) →
      IsInterfaceSender s f.router f.frame.iface sender →
      AllHear now sender f.frame.bytes (hearers_of s.arcs f.router f.frame.iface) old mid more →
      Flood s now mid (rest ++ more) new heard → Flood s now old (f ∷ rest) new (f ∷ heard)
