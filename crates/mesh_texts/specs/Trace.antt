-- The lines of an event of an emulated network: what happens to its router, the relays that this then has, and what it sends.
use Rattle.std.specs.Prelude.{◌≡◌, ℕ, List, [], ◌∷◌, ◌++◌, Option, Some, None, codes, decimal, slice_get, slice_index_or, IfSome}
use Rattle.std.specs.List.{flat_map, enumerate_from}
use Rattle.hex.specs.Hex.{encode_lower}
use Rattle.mesh_atoms.specs.declared.addr.Addr4.{Addr4}
use Rattle.mesh_atoms.specs.declared.settings.Interface.{Interface}
use Rattle.mesh_atoms.specs.declared.settings.RadioArc.{RadioArc}
use Rattle.mesh_atoms.specs.declared.settings.RouterSettings.{RouterSettings}
use Rattle.mesh_atoms.specs.declared.settings.Scenario.{Scenario}
use Rattle.mesh_atoms.specs.State.{State}
use Rattle.mesh_settled.specs.machine.packet.Grammar.{FirstFault}
use Rattle.mesh_settled.specs.machine.Sendable.{IsPacket}
use Rattle.mesh_atoms.specs.declared.network.Emission.{Emission}
use Rattle.mesh_atoms.specs.declared.network.NetEvent.{NetEvent}
use Rattle.mesh_settled.specs.machine.Names.{router_name}
use Rattle.mesh_texts.specs.Lines.Marks.{line_of, dotted, relays_text, face_name, faces_of}
use Rattle.mesh_texts.specs.declared.trace.FrameLine.{FrameLine}

-- a router's clock ticked
unfoldable pub tick_line : ℕ → List ℕ → List ℕ
tick_line moment router = line_of (codes "tick " ∷ decimal moment ∷ codes " " ∷ router ∷ [])

-- a router heard a frame from a sender on the interface of that name
unfoldable pub heard_line : ℕ → List ℕ → List ℕ → Addr4 → List ℕ → List ℕ
heard_line moment router face sender frame = line_of (
    codes "heard " ∷ decimal moment ∷ codes " " ∷ router ∷ codes " " ∷ face ∷ codes " " ∷ dotted sender
    ∷ codes " " ∷ encode_lower frame ∷ [])

-- a frame was sent on the interface of that name
unfoldable pub sent_line : ℕ → List ℕ → List ℕ → List ℕ → List ℕ
sent_line moment router face frame = line_of (
    codes "sent " ∷ decimal moment ∷ codes " " ∷ router ∷ codes " " ∷ face ∷ codes " " ∷ encode_lower frame ∷ [])

-- a frame on an interface of the router with these settings: heard from a sender, or sent where there is none
abbrev pub frame_text : ℕ → RouterSettings → ℕ → List ℕ → Option Addr4 → List ℕ
frame_text moment r iface frame None = sent_line moment r.name (face_name r.interfaces iface) frame
frame_text moment r iface frame (Some sender) = heard_line moment r.name (face_name r.interfaces iface) sender frame

-- the line of a frame
abbrev pub frame_line : FrameLine → List ℕ
frame_line l = frame_text l.moment l.router.now l.iface l.frame.now l.sender

-- what happened at a moment to the router with these settings: it heard a frame, or its clock ticked
abbrev pub happened_line : ℕ → RouterSettings → Option (ℕ × Addr4 × List ℕ) → List ℕ
happened_line moment r None = tick_line moment r.name
happened_line moment r (Some heard) = heard_line moment r.name (face_name r.interfaces heard.0) heard.1 heard.2

unfoldable pub event_line : NetEvent → RouterSettings → List ℕ
event_line event r = happened_line event.moment r event.heard

-- the flooding relays of a router, on the interface of that name
abbrev pub flooding_text : List ℕ → List ℕ → List Addr4 → List ℕ
flooding_text router face relays = line_of (codes "relays " ∷ router ∷ codes " flooding " ∷ face ∷ relays_text relays ∷ [])

-- of the lists of all its interfaces, the one of this interface
unfoldable pub flooding_relays_line : List ℕ → List (List Addr4) → ℕ × Interface → List ℕ
flooding_relays_line router relays face = flooding_text router face.1.name (slice_index_or relays face.0 [])

-- its routing relays
unfoldable pub routing_relays_line : List ℕ → List Addr4 → List ℕ
routing_relays_line router relays = line_of (codes "relays " ∷ router ∷ codes " routing" ∷ relays_text relays ∷ [])

-- the relays that a router has: of each interface, then for routing
unfoldable pub relays_lines : State → List ℕ
relays_lines s =
    flat_map (flooding_relays_line s.settings.name s.relays.flooding) (enumerate_from 0 s.settings.interfaces)
    ++ routing_relays_line s.settings.name s.relays.routing

-- a frame was lost on the arc between the interfaces of these names
unfoldable pub loss_line : ℕ → List ℕ → List ℕ → List ℕ → List ℕ → List ℕ
loss_line moment from from_face to to_face = line_of (
    codes "lost " ∷ decimal moment ∷ codes " " ∷ from ∷ codes "." ∷ from_face ∷ codes " " ∷ to ∷ codes "." ∷ to_face ∷ [])

-- a frame was lost on an arc between these routers; nothing where there is no arc
abbrev pub arc_line : List RouterSettings → ℕ → Option RadioArc → List ℕ
arc_line routers moment None = []
arc_line routers moment (Some a) =
    loss_line moment (router_name routers a.from) (face_name (faces_of routers a.from) a.from_iface)
    (router_name routers a.to) (face_name (faces_of routers a.to) a.to_iface)

-- the same, by the number of the arc
unfoldable pub lost_line : Scenario → ℕ → ℕ → List ℕ
lost_line s moment arc = arc_line s.routers moment (slice_get s.arcs arc)

-- a frame that a router sent, and the arcs on which it was lost
unfoldable pub sent_lines : Scenario → ℕ → RouterSettings → Emission → List ℕ
sent_lines s moment r sent =
    sent_line moment r.name (face_name r.interfaces sent.iface) sent.frame ++ flat_map (lost_line s moment) sent.lost

-- a tick, or a frame that is taken, where the router is in that state after it
unfoldable pub event_text : Scenario → NetEvent → State → List ℕ
event_text s event after =
    event_line event after.settings ++ relays_lines after ++ flat_map (sent_lines s event.moment after.settings) event.sent

-- the frame that is heard, if one is, spells a packet, so that it is taken
abbrev pub IsFrameTaken : NetEvent → Type 0
IsFrameTaken event = IfSome event.heard (λ h. IsPacket h.2)

-- the frame that is heard has a fault, so that it is refused
pub record IsFrameRefused (event : NetEvent) : Type 0 where
  pub iface : ℕ
  pub sender : Addr4
  pub frame : List ℕ
  pub heard : event.heard ≡ Some (iface, sender, frame)
  pub place : ℕ
  pub reason : ℕ
  pub fault : FirstFault frame place reason

-- the text of an event: a refused frame has its own line alone, as it changes nothing
pub data IsEventText (s : Scenario) (event : NetEvent) (after : State) (text : List ℕ) : Type 0 where
  Of_taken : IsFrameTaken event → text ≡ event_text s event after → IsEventText s event after text
  Of_refused : IsFrameRefused event → text ≡ event_line event after.settings → IsEventText s event after text
