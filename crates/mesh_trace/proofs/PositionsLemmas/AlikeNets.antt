-- Networks that are alike, and that what a line tells at the one it tells at the other.
use Rattle.mesh_trace.proofs.Common.{common_steps, ◌≡◌, ◌≢◌, ◌⊎◌, ℕ, zero, suc, inl, inr, refl, sym, ◌∙◌, subst, arith, List, [], ◌∷◌, length, Some, Bool, slice_get, slice_set, Addr4, RouterSettings, Scenario, TcRow, IsHelloNow, IsRoundedUp, IsFloodingGraph, State, IsOriginator, IsValidity, Frame, on_each, IsHelloFrame, Emission, Traffic, Sends, set_at, face_name, flooding_text, routing_relays_line, sent_line, lost_line, NetState, WritesTc, AlikeStates, Alike, TellsItem, Tells_flooding, Tells_routing, Tells_hello, Tells_tc, Tells_frame, Tells_loss, TellsFrame, AreTcFrames, with_flooding, with_routing, IsLineOf, Item, TracePosition, with_state, with_traffic}
use Rattle.mesh_trace.proofs.PositionsLemmas.AlikeBases.{bases_itself, bases_on}
use Rattle.mesh_trace.proofs.PositionsLemmas.AlikeStates.{HoldsAlso, hello_by, routing_by, flooding_by}
use Rattle.mesh_trace.proofs.PositionsLemmas.TcFrames.{one_part, parts_one}

pub states_itself : (s : State) → AlikeStates s s
states_itself s = grind (arith, common_steps, bases_itself)

pub states_on : (r s t : State) → AlikeStates r s → AlikeStates s t → AlikeStates r t
states_on r s t h k = grind (arith, common_steps, bases_on)

-- ---- networks

pub record AlikeNets (m n : NetState) : Type 0 where
  pub scenario : n.scenario ≡ m.scenario
  pub count : length n.routers ≡ length m.routers
  pub routers : (x : ℕ) (s t : State) → slice_get m.routers x ≡ Some s → slice_get n.routers x ≡ Some t → AlikeStates s t
  pub traffic : n.traffic ≡ m.traffic
  pub last_ticks : n.last_ticks ≡ m.last_ticks

pub as_nets : (p q : TracePosition) → Alike p q → AlikeNets p.net q.net
as_nets p q h = record { scenario = h.scenario; count = h.count; routers = h.routers; traffic = h.traffic; last_ticks = h.last_ticks }

pub as_positions : (m n : NetState) (x : ℕ) (left : List Item) → AlikeNets m n → Alike (record { net = m; router = x; left = left }) (record { net = n; router = x; left = left })
as_positions m n x left h = record { scenario = h.scenario; count = h.count; routers = h.routers; traffic = h.traffic; last_ticks = h.last_ticks; router = refl; left = refl }

pub set_length : {A : Type 0} (xs : List A) (i : ℕ) (x : A) → length (slice_set xs i x) ≡ length xs
set_length [] i x = refl
set_length (y ∷ ys) zero x = refl
set_length (y ∷ ys) (suc i) x = let more = set_length ys i x in omega (arith, more)

pub nets_set : (m n : NetState) (x : ℕ) (s t : State) → AlikeNets m n → AlikeStates s t → AlikeNets (with_state m x s) (with_state n x t)
nets_set m n x s t h states = record {
  scenario = h.scenario;
  count = set_length n.routers x t ∙ (h.count ∙ sym (set_length m.routers x s));
  routers = λ y u v at at'. one y u v (set_at m.routers x s y u at) (set_at n.routers x t y v at');
  traffic = h.traffic;
  last_ticks = h.last_ticks;
}
  where
    one : (y : ℕ) (u v : State) → ((y ≡ x) × (u ≡ s)) ⊎ ((y ≢ x) × (slice_get m.routers y ≡ Some u)) → ((y ≡ x) × (v ≡ t)) ⊎ ((y ≢ x) × (slice_get n.routers y ≡ Some v)) → AlikeStates u v
    one y u v (inl (here, is)) (inl (here', is')) = subst (λ (z : State). AlikeStates z v) (sym is) (subst (λ (z : State). AlikeStates s z) (sym is') states)
    one y u v (inl (here, is)) (inr (there, stands)) = absurd (there here)
    one y u v (inr (there, stands)) (inl (here, is)) = absurd (there here)
    one y u v (inr (there, stands)) (inr (there', stands')) = h.routers y u v stands stands'

pub nets_traffic : (m n : NetState) (t : Traffic) → AlikeNets m n → AlikeNets (with_traffic m t) (with_traffic n t)
nets_traffic m n t h = record { scenario = h.scenario; count = h.count; routers = h.routers; traffic = refl; last_ticks = h.last_ticks }

-- ---- what a line tells at the one, it tells at the other

-- with a network that is alike that after the one
pub record TellsAlso (n : NetState) (x : ℕ) (t : State) (line : List ℕ) (item : Item) (after : NetState) (more : List Item) : Type 0 where
  pub new : NetState
  pub tells : TellsItem n x t line item new more
  pub alike : AlikeNets after new

record FrameAlso (n : NetState) (x : ℕ) (t : State) (frame : Frame) (line : List ℕ) (after : NetState) (losses : List Item) : Type 0 where
  new : NetState
  tells : TellsFrame n x t frame line new losses
  alike : AlikeNets after new

frame_from : (m n : NetState) (x : ℕ) (s t : State) (frame : Frame) (line : List ℕ) (after : NetState) (losses : List Item) → AlikeNets m n → AlikeStates s t → TellsFrame m x s frame line after losses →
    FrameAlso n x t frame line after losses
frame_from m n x s t frame line after losses nets states tells =
    let e : Emission = record { iface = frame.iface; frame = frame.bytes; lost = tells.lost } in
    record {
      new = with_traffic n tells.traffic;
      tells = record {
        line_is = subst (λ (l : ℕ). IsLineOf line (sent_line l t.settings.name (face_name t.settings.interfaces frame.iface) frame.bytes)) (sym states.last)
            (subst (λ (r : RouterSettings). IsLineOf line (sent_line s.last r.name (face_name r.interfaces frame.iface) frame.bytes)) (sym states.settings) tells.line_is);
        lost = tells.lost;
        traffic = tells.traffic;
        sends = subst (λ (c : Scenario). Sends c t.last x e n.traffic tells.traffic) (sym nets.scenario)
            (subst (λ (l : ℕ). Sends m.scenario l x e n.traffic tells.traffic) (sym states.last)
            (subst (λ (old : Traffic). Sends m.scenario s.last x e old tells.traffic) (sym nets.traffic) tells.sends));
        leads = refl;
        losses_are = tells.losses_are;
      };
      alike = subst (λ (z : NetState). AlikeNets z (with_traffic n tells.traffic)) (sym tells.leads) (nets_traffic m n tells.traffic nets);
    }

frames_from : (s t : State) (complete : Bool) (sequence : ℕ) (rows : List TcRow) (first : Frame) (further : List Frame) → AlikeStates s t → AreTcFrames s complete sequence rows first further → AreTcFrames t complete sequence rows first further
frames_from s t complete sequence rows first further states are =
    let back : s.settings ≡ t.settings = sym states.settings in
    let part = one_part s are.validity complete sequence rows (first ∷ further) are.sends in
    record {
      validity = are.validity;
      is_validity = subst (λ (r : RouterSettings). IsValidity r.times.topology_hold r.near_hold are.validity) back are.is_validity;
      sends = parts_one t are.validity complete sequence rows part.tc part.bytes (first ∷ further)
          (record {
            originator = subst (λ (r : RouterSettings). IsOriginator r part.tc.originator) back part.is_tc.originator;
            sequence_is = part.is_tc.sequence_is;
            ansn = part.is_tc.ansn ∙ sym states.ansn;
            complete_is = part.is_tc.complete_is;
            validity_is = part.is_tc.validity_is;
            interval = (part.is_tc.interval.0, part.is_tc.interval.1, subst (λ (r : RouterSettings). IsRoundedUp r.times.tc part.is_tc.interval.0) back part.is_tc.interval.2);
            rows_are = part.is_tc.rows_are;
          })
          (subst (λ (r : RouterSettings). WritesTc part.tc r.times.tc_hop_limit are.validity part.bytes) back part.written)
          (subst (λ (r : RouterSettings). first ∷ further ≡ on_each (length r.interfaces) part.bytes) back part.are);
    }

flooding_states : (s t : State) (relays : List Addr4) → AlikeStates s t → AlikeStates (with_flooding s relays) (with_flooding t relays)
flooding_states s t relays h = grind (arith, common_steps)

routing_states : (s t : State) (relays : List Addr4) → AlikeStates s t → AlikeStates (with_routing s relays) (with_routing t relays)
routing_states s t relays h = grind (arith, common_steps)

module _ (m n : NetState) (x : ℕ) (s t : State) (line : List ℕ) (nets : AlikeNets m n) (states : AlikeStates s t) (h : HoldsAlso s t) (k : HoldsAlso t s) where
  back : s.settings ≡ t.settings
  back = sym states.settings

  pub tells_from : (item : Item) (after : NetState) (more : List Item) → TellsItem m x s line item after more → TellsAlso n x t line item after more
  tells_from item after more (Tells_flooding {i} face relays g at graph are is) = record {
    new = with_state n x (with_flooding t relays);
    tells = Tells_flooding face relays g (subst (λ (r : RouterSettings). slice_get r.interfaces i ≡ Some face) back at)
        (subst (λ (l : ℕ). IsFloodingGraph t l i g) (sym states.last) (flooding_by s t h k s.last i g graph)) are
        (subst (λ (r : RouterSettings). IsLineOf line (flooding_text r.name face.name relays)) back is);
    alike = nets_set m n x (with_flooding s relays) (with_flooding t relays) nets (flooding_states s t relays states);
  }
  tells_from item after more (Tells_routing relays g graph are is) = record {
    new = with_state n x (with_routing t relays);
    tells = Tells_routing relays g (routing_by s t h k g graph) are (subst (λ (r : RouterSettings). IsLineOf line (routing_relays_line r.name relays)) back is);
    alike = nets_set m n x (with_routing s relays) (with_routing t relays) nets (routing_states s t relays states);
  }
  tells_from item after more (Tells_hello {i} frame is tells) =
      let also = frame_from m n x s t frame line after more nets states tells in
      let said : IsHelloFrame t i frame =
      record { iface = is.iface; hello = is.hello; is_now = subst (λ (l : ℕ). IsHelloNow t i l is.hello) (sym states.last) (hello_by s t h k i s.last is.hello is.is_now); written = is.written } in
      record { new = also.new; tells = Tells_hello frame said also.tells; alike = also.alike }
  tells_from item after more (Tells_tc {complete} {sequence} {rows} {losses = losses} first further are tells) =
      let also = frame_from m n x s t first line after losses nets states tells in
      record { new = also.new; tells = Tells_tc first further (frames_from s t complete sequence rows first further states are) also.tells; alike = also.alike }
  tells_from item after more (Tells_frame {frame} tells) =
      let also = frame_from m n x s t frame line after more nets states tells in
      record { new = also.new; tells = Tells_frame also.tells; alike = also.alike }
  tells_from item after more (Tells_loss {n = arc} is) = record {
    new = n;
    tells = Tells_loss (subst (λ (l : ℕ). IsLineOf line (lost_line n.scenario l arc)) (sym states.last) (subst (λ (c : Scenario). IsLineOf line (lost_line c s.last arc)) (sym nets.scenario) is));
    alike = nets;
  }
