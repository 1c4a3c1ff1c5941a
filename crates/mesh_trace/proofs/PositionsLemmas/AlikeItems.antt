-- One line tells one thing of an item, and tells the same from networks that are alike.
use Rattle.mesh_trace.proofs.Common.{arith, ◌≡◌, ℕ, ◌+◌, ◌<◌, ◌^◌, refl, sym, ◌∙◌, ap, subst, List, [], ◌∷◌, ◌++◌, length, map, drop, Some, Bool, codes, decimal, Ok, slice_get, common_steps, append_cancel_left, append_cancel_right, Addr4, NeighbourGraph, Interface, RadioArc, Scenario, TcRow, AreRelaysOf, IsFloodingGraph, IsRoutingGraph, State, Frame, on_each, IsHelloFrame, Traffic, Spreads, No_arcs, Loses, Carries, with_loss, with_delivery, AreOctets, same_at, face_name, flooding_text, routing_relays_line, sent_line, NetState, HasAddresses, TellsItem, Tells_flooding, Tells_routing, Tells_hello, Tells_tc, TellsFrame, AreTcFrames, with_flooding, with_routing, IsLineOf, Item, Flooding, Routing, Sent, Lost, with_state}
use Rattle.hex.specs.Hex.{encode_lower, decode_of}
use Rattle.hex.proofs.HexLemmas.{decode_of-encode_lower}
use Rattle.mesh_trace.specs.Positions.Standing.{Hello, Tc}
use Rattle.mesh_trace.proofs.PositionsLemmas.Leading.{tells_loss, tells_frame}
use Rattle.mesh_trace.proofs.PositionsLemmas.RelayTexts.{AreAddresses, same_flooding, same_routing}
use Rattle.mesh_trace.proofs.PositionsLemmas.TcFrames.{one_part, first_is, further_is}

-- ---- what a line tells, item by item

pub record ToldFlooding (net : NetState) (x : ℕ) (s : State) (line : List ℕ) (i : ℕ) (new : NetState) (more : List Item) : Type 0 where
  pub face : Interface
  pub relays : List Addr4
  pub graph : NeighbourGraph
  pub face_is : slice_get s.settings.interfaces i ≡ Some face
  pub graph_is : IsFloodingGraph s s.last i graph
  pub are : AreRelaysOf graph relays
  pub is : IsLineOf line (flooding_text s.settings.name face.name relays)
  pub new_is : new ≡ with_state net x (with_flooding s relays)
  pub more_is : more ≡ []

pub tells_flooding : (net : NetState) (x : ℕ) (s : State) (line : List ℕ) (i : ℕ) (new : NetState) (more : List Item) → TellsItem net x s line (Flooding i) new more → ToldFlooding net x s line i new more
tells_flooding net x s line i new more (Tells_flooding face relays g at graph are is) =
    record { face = face; relays = relays; graph = g; face_is = at; graph_is = graph; are = are; is = is; new_is = refl; more_is = refl }

pub record ToldRouting (net : NetState) (x : ℕ) (s : State) (line : List ℕ) (new : NetState) (more : List Item) : Type 0 where
  pub relays : List Addr4
  pub graph : NeighbourGraph
  pub graph_is : IsRoutingGraph s graph
  pub are : AreRelaysOf graph relays
  pub is : IsLineOf line (routing_relays_line s.settings.name relays)
  pub new_is : new ≡ with_state net x (with_routing s relays)
  pub more_is : more ≡ []

pub tells_routing : (net : NetState) (x : ℕ) (s : State) (line : List ℕ) (new : NetState) (more : List Item) → TellsItem net x s line Routing new more → ToldRouting net x s line new more
tells_routing net x s line new more (Tells_routing relays g graph are is) = record { relays = relays; graph = g; graph_is = graph; are = are; is = is; new_is = refl; more_is = refl }

pub record ToldHello (net : NetState) (x : ℕ) (s : State) (line : List ℕ) (i : ℕ) (new : NetState) (more : List Item) : Type 0 where
  pub frame : Frame
  pub is : IsHelloFrame s i frame
  pub tells : TellsFrame net x s frame line new more

pub tells_hello : (net : NetState) (x : ℕ) (s : State) (line : List ℕ) (i : ℕ) (new : NetState) (more : List Item) → TellsItem net x s line (Hello i) new more → ToldHello net x s line i new more
tells_hello net x s line i new more (Tells_hello frame is tells) = record { frame = frame; is = is; tells = tells }

pub record ToldTc (net : NetState) (x : ℕ) (s : State) (line : List ℕ) (complete : Bool) (sequence : ℕ) (rows : List TcRow) (new : NetState) (more : List Item) : Type 0 where
  pub first : Frame
  pub further : List Frame
  pub losses : List Item
  pub are : AreTcFrames s complete sequence rows first further
  pub tells : TellsFrame net x s first line new losses
  pub more_is : more ≡ losses ++ map Sent further

pub tells_tc : (net : NetState) (x : ℕ) (s : State) (line : List ℕ) (complete : Bool) (sequence : ℕ) (rows : List TcRow) (new : NetState) (more : List Item) → TellsItem net x s line (Tc complete sequence rows) new more →
    ToldTc net x s line complete sequence rows new more
tells_tc net x s line complete sequence rows new more (Tells_tc {losses} first further are tells) = record { first = first; further = further; losses = losses; are = are; tells = tells; more_is = refl }

-- ---- a frame goes out in one way

spreads_once : (s : Scenario) (now : ℕ) (frame : List ℕ) (arcs : List (ℕ × RadioArc)) (lost lost' : List ℕ) (old new new' : Traffic) → Spreads s now frame arcs lost old new → Spreads s now frame arcs lost' old new' →
    (lost ≡ lost') × (new ≡ new')
spreads_once s now frame [] lost lost' old new new' No_arcs No_arcs = (refl, refl)
spreads_once s now frame (a ∷ arcs) (n ∷ lost) (n' ∷ lost') old new new' (Loses loses rest) (Loses loses' rest') =
    let (losts, traffic) = spreads_once s now frame arcs lost lost' (with_loss old) new new' rest rest' in (ap (λ (l : List ℕ). a.0 ∷ l) losts, traffic)
spreads_once s now frame (a ∷ arcs) (n ∷ lost) lost' old new new' (Loses loses rest) (Carries carries rest') = absurd (carries loses)
spreads_once s now frame (a ∷ arcs) lost (n' ∷ lost') old new new' (Carries carries rest) (Loses loses rest') = absurd (carries loses)
spreads_once s now frame (a ∷ arcs) lost lost' old new new' (Carries carries rest) (Carries carries' rest') =
    spreads_once s now frame arcs lost lost' (with_delivery old (record { moment = now + a.1.delay; arc = a.0; frame = frame })) new new' rest rest'

frame_once : (net : NetState) (x : ℕ) (s : State) (frame : Frame) (line : List ℕ) (new new' : NetState) (losses losses' : List Item) → TellsFrame net x s frame line new losses → TellsFrame net x s frame line new' losses' →
    (new ≡ new') × (losses ≡ losses')
frame_once net x s frame line new new' losses losses' one other = grind (arith, common_steps, spreads_once, frame, map)

-- ---- octets are read back from their line

same_octets : (one other : List ℕ) → AreOctets one → AreOctets other → encode_lower one ≡ encode_lower other → one ≡ other
same_octets one other are are' same =
    let both : Ok one ≡ Ok other = sym (decode_of-encode_lower one are) ∙ (ap decode_of same ∙ decode_of-encode_lower other are') in cc

-- what stands behind the same parts
behind_parts : List (List ℕ) → List ℕ → List ℕ
behind_parts [] text = text
behind_parts (part ∷ parts) text = part ++ behind_parts parts text

same_behind : (parts : List (List ℕ)) (one other : List ℕ) → behind_parts parts one ≡ behind_parts parts other → one ≡ other
unfolding behind_parts
same_behind [] one other e = e
same_behind (part ∷ parts) one other e = same_behind parts one other (append_cancel_left part (behind_parts parts one) (behind_parts parts other) e)

pub same_sent : (moment : ℕ) (router face one other : List ℕ) → AreOctets one → AreOctets other → sent_line moment router face one ≡ sent_line moment router face other → one ≡ other
unfolding sent_line behind_parts
same_sent moment router face one other are are' e =
    same_octets one other are are' (append_cancel_right (encode_lower one) (encode_lower other) (codes "\n")
    (same_behind (codes "sent " ∷ (decimal moment ∷ (codes " " ∷ (router ∷ (codes " " ∷ (face ∷ (codes " " ∷ []))))))) (encode_lower one ++ codes "\n") (encode_lower other ++ codes "\n") e))

-- two frames on one interface with one line are one
same_frame : (s : State) (line : List ℕ) (f g : Frame) → f.iface ≡ g.iface → AreOctets f.bytes → AreOctets g.bytes → IsLineOf line (sent_line s.last s.settings.name (face_name s.settings.interfaces f.iface) f.bytes) →
    IsLineOf line (sent_line s.last s.settings.name (face_name s.settings.interfaces g.iface) g.bytes) → f ≡ g
same_frame s line f g iface are are' one other = grind (arith, common_steps, same_sent)

-- ---- one line tells one thing

flooding_addresses : (s : State) → HasAddresses s → (now i : ℕ) (g : NeighbourGraph) (relays : List Addr4) → IsFloodingGraph s now i g → AreRelaysOf g relays → AreAddresses relays
flooding_addresses s known now i g relays graph are id has =
    let (near, inside, same, willing) = are.covers.willing id has in
    let at = (graph.near near).0 inside in
    subst (λ (a : Addr4). a.0 < 2 ^ 32) same (known near.id at.0 at.2)

routing_addresses : (s : State) → HasAddresses s → (g : NeighbourGraph) (relays : List Addr4) → IsRoutingGraph s g → AreRelaysOf g relays → AreAddresses relays
routing_addresses s known g relays graph are id has =
    let (near, inside, same, willing) = are.covers.willing id has in
    let at = (graph.near near).0 inside in
    subst (λ (a : Addr4). a.0 < 2 ^ 32) same (known near.id at.0 at.2)

pub tells_once : (net : NetState) (x : ℕ) (s : State) (line : List ℕ) (item : Item) (new new' : NetState) (more more' : List Item) → HasAddresses s → TellsItem net x s line item new more → TellsItem net x s line item new' more' →
    (new ≡ new') × (more ≡ more')
tells_once net x s line (Flooding i) new new' more more' known one other =
    let a = tells_flooding net x s line i new more one in
    let b = tells_flooding net x s line i new' more' other in
    let face : b.face ≡ a.face = same_at s.settings.interfaces i b.face a.face b.face_is a.face_is in
    let lines : flooding_text s.settings.name a.face.name a.relays ≡ flooding_text s.settings.name a.face.name b.relays =
    sym a.is ∙ (b.is ∙ ap (λ (f : Interface). flooding_text s.settings.name f.name b.relays) face) in
    let relays = same_flooding s.settings.name a.face.name a.relays b.relays (flooding_addresses s known s.last i a.graph a.relays a.graph_is a.are) lines in
    (a.new_is ∙ (ap (λ (r : List Addr4). with_state net x (with_flooding s r)) relays ∙ sym b.new_is), a.more_is ∙ sym b.more_is)
tells_once net x s line Routing new new' more more' known one other =
    let a = tells_routing net x s line new more one in
    let b = tells_routing net x s line new' more' other in
    let relays = same_routing s.settings.name a.relays b.relays (routing_addresses s known a.graph a.relays a.graph_is a.are) (sym a.is ∙ b.is) in
    (a.new_is ∙ (ap (λ (r : List Addr4). with_state net x (with_routing s r)) relays ∙ sym b.new_is), a.more_is ∙ sym b.more_is)
tells_once net x s line (Hello i) new new' more more' known one other =
    let a = tells_hello net x s line i new more one in
    let b = tells_hello net x s line i new' more' other in
    let frames : b.frame ≡ a.frame = same_frame s line b.frame a.frame (b.is.iface ∙ sym a.is.iface) b.is.written.packet.octets a.is.written.packet.octets b.tells.line_is a.tells.line_is in
    frame_once net x s a.frame line new new' more more' a.tells (subst (λ (f : Frame). TellsFrame net x s f line new' more') frames b.tells)
tells_once net x s line (Tc complete sequence rows) new new' more more' known one other =
    let a = tells_tc net x s line complete sequence rows new more one in
    let b = tells_tc net x s line complete sequence rows new' more' other in
    let m = one_part s a.are.validity complete sequence rows (a.first ∷ a.further) a.are.sends in
    let n = one_part s b.are.validity complete sequence rows (b.first ∷ b.further) b.are.sends in
    let first : b.first ≡ a.first = same_frame s line b.first a.first (ap (λ (f : Frame). f.iface) (first_is s n.bytes b.first b.further n.are) ∙ sym (ap (λ (f : Frame). f.iface) (first_is s m.bytes a.first a.further m.are)))
    (subst (λ (f : Frame). AreOctets f.bytes) (sym (first_is s n.bytes b.first b.further n.are)) n.written.packet.octets)
    (subst (λ (f : Frame). AreOctets f.bytes) (sym (first_is s m.bytes a.first a.further m.are)) m.written.packet.octets) b.tells.line_is a.tells.line_is in
    let bytes : n.bytes ≡ m.bytes =
    sym (ap (λ (f : Frame). f.bytes) (first_is s n.bytes b.first b.further n.are)) ∙ (ap (λ (f : Frame). f.bytes) first ∙ ap (λ (f : Frame). f.bytes) (first_is s m.bytes a.first a.further m.are)) in
    let further : b.further ≡ a.further =
    further_is s n.bytes b.first b.further n.are ∙ (ap (λ (l : List ℕ). drop 1 (on_each (length s.settings.interfaces) l)) bytes ∙ sym (further_is s m.bytes a.first a.further m.are)) in
    let (nets, losses) = frame_once net x s a.first line new new' a.losses b.losses a.tells (subst (λ (f : Frame). TellsFrame net x s f line new' b.losses) first b.tells) in
    (nets, a.more_is ∙ (ap (λ (l : List Item). l ++ map Sent a.further) losses ∙ (ap (λ (l : List Frame). b.losses ++ map Sent l) (sym further) ∙ sym b.more_is)))
tells_once net x s line (Sent frame) new new' more more' known one other =
    frame_once net x s frame line new new' more more' (tells_frame net x s line frame new more one) (tells_frame net x s line frame new' more' other)
tells_once net x s line (Lost n) new new' more more' known one other = grind (arith, common_steps, tells_loss)
