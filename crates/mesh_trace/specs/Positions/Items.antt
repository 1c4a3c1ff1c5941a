-- The lines behind that of an event.
use Rattle.std.specs.Prelude.{◌≡◌, ℕ, List, [], ◌∷◌, ◌++◌, map, Some, slice_get, Bool}
use Rattle.mesh_atoms.specs.declared.addr.Addr4.{Addr4}
use Rattle.mesh_atoms.specs.declared.graphs.NeighbourGraph.{NeighbourGraph}
use Rattle.mesh_atoms.specs.declared.settings.Interface.{Interface}
use Rattle.mesh_atoms.specs.declared.tc.TcRow.{TcRow}
use Rattle.mesh_atoms.specs.RelayGraphs.{AreRelaysOf, IsFloodingGraph, IsRoutingGraph}
use Rattle.mesh_atoms.specs.State.{State}
use Rattle.mesh_atoms.specs.Validity.{IsValidity}
use Rattle.mesh_texts.specs.machine.declared.frame.Frame.{Frame}
use Rattle.mesh_texts.specs.machine.Sending.{IsHelloFrame, SendsParts}
use Rattle.mesh_texts.specs.machine.Traffic.{Traffic, Sends}
use Rattle.mesh_texts.specs.Lines.Marks.{face_name}
use Rattle.mesh_texts.specs.Trace.{flooding_text, routing_relays_line, sent_line, lost_line}
use Rattle.mesh_texts.specs.machine.Net.{NetState}
use Rattle.mesh_trace.specs.Reading.Lines.{IsLineOf}
use Rattle.mesh_trace.specs.Positions.Standing.{Item, Flooding, Routing, Hello, Tc, Sent, Lost, with_state, with_traffic}

-- the router with the relays of one interface more, and with these routing relays
abbrev pub with_flooding : State → List Addr4 → State
with_flooding s relays = record s { relays = record s.relays { flooding = s.relays.flooding ++ (relays ∷ []) } }

abbrev pub with_routing : State → List Addr4 → State
with_routing s relays = record s { relays = record s.relays { routing = relays } }

-- the line tells that router x, in that state, sends the frame: it goes out on the arcs, and these losses are then to be told
pub record TellsFrame (net : NetState) (x : ℕ) (s : State) (frame : Frame) (line : List ℕ) (new : NetState) (losses : List Item) : Type 0 where
  pub line_is : IsLineOf line (sent_line s.last s.settings.name (face_name s.settings.interfaces frame.iface) frame.bytes)
  pub lost : List ℕ
  pub traffic : Traffic
  pub sends : Sends net.scenario s.last x (record { iface = frame.iface; frame = frame.bytes; lost = lost }) net.traffic traffic
  pub leads : new ≡ with_traffic net traffic
  pub losses_are : losses ≡ map Lost lost

-- these are the frames of a TC of these rows with that number, one on each interface: the first, and the further ones
pub record AreTcFrames (s : State) (complete : Bool) (sequence : ℕ) (rows : List TcRow) (first : Frame) (further : List Frame) : Type 0 where
  pub validity : List ℕ
  pub is_validity : IsValidity s.settings.times.topology_hold s.settings.near_hold validity
  pub sends : SendsParts s validity complete sequence (rows ∷ []) (first ∷ further)

-- one line for what is to be told next of an event of router x, in that state: the network after it, and what is to be told before
-- the rest
pub data TellsItem (net : NetState) (x : ℕ) (s : State) (line : List ℕ) : Item → NetState → List Item → Type 0 where
  -- relays that cover, of which each is needed (RFC 7181, section 18.3), in ascending order
  Tells_flooding : {i : ℕ} (face : Interface) (relays : List Addr4) (g : NeighbourGraph) → slice_get s.settings.interfaces i ≡ Some face →
      IsFloodingGraph s s.last i g → AreRelaysOf g relays → IsLineOf line (flooding_text s.settings.name face.name relays) →
      TellsItem net x s line (Flooding i) (with_state net x (with_flooding s relays)) []
  Tells_routing : (relays : List Addr4) (g : NeighbourGraph) → IsRoutingGraph s g → AreRelaysOf g relays →
      IsLineOf line (routing_relays_line s.settings.name relays) → TellsItem net x s line Routing (with_state net x (with_routing s relays)) []
  -- the HELLO that is due, however it is spelled
  Tells_hello : {i : ℕ} {new : NetState} {losses : List Item} (frame : Frame) → IsHelloFrame s i frame →
      TellsFrame net x s frame line new losses → TellsItem net x s line (Hello i) new losses
  -- the TC that is due, however it is spelled; then the same octets on each further interface
  Tells_tc : {complete : Bool} {sequence : ℕ} {rows : List TcRow} {new : NetState} {losses : List Item} (first : Frame) (further : List Frame) →
      AreTcFrames s complete sequence rows first further → TellsFrame net x s first line new losses →
      TellsItem net x s line (Tc complete sequence rows) new (losses ++ map Sent further)
  -- these very octets
  Tells_frame : {frame : Frame} {new : NetState} {losses : List Item} → TellsFrame net x s frame line new losses →
      TellsItem net x s line (Sent frame) new losses
  Tells_loss : {n : ℕ} → IsLineOf line (lost_line net.scenario s.last n) → TellsItem net x s line (Lost n) net []
