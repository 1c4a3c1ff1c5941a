-- The routers at the ends of a frame's arcs hear it, one after the other.
use Rattle.mesh_probe.proofs.Common.{◌≡◌, ℕ, ◌+◌, ◌<◌, ◌≤◌, inl, inr, refl, sym, ◌∙◌, ap, subst, arith, List, [], ◌∷◌, ◌++◌, length, Contains, Bool, true, false, Some, map, drop, get_or, append_assoc, All, slice_get, slice_set, cond, option_map, common_steps, cases_eq, map-set, length-map, drop_more, drop_all, append-nil, All-nil, All-cons, All-head, All-tail, All-append, slice_get_within, slice_get-map, slice_get-get_or, slice_get_read, Addr4, RadioArc, RouterSettings, Scenario, Router, At, State, Frame, arc_leads_to, Transmission, is_arc_from, hearers_of, BecomesAt, AllHear, All_have_heard, Next_hears, sent_by, CanHear, IsOfInterface, HearsFrame, same_some}
use Rattle.mesh_machine.specs.Sendable.{IsSendable}
use Rattle.mesh_wire.proofs.Standing.{get_set, get_unset}

-- One state is replaced

-- what is made of a list, where one item is replaced
pub becomes : {A : Type 0} (state : A → State) (xs : List A) (w : ℕ) (is : A) → w < length xs → BecomesAt (map state xs) w (state is) (map state (slice_set xs w is))
becomes state xs w is less = grind (arith, common_steps, map-set, length-map, get_set, get_unset)

module _ {s : Scenario} {now : ℕ} {old new : List State} {w : ℕ} {q : State} (b : BecomesAt old w q new) where
  pub still_can : (p : State) → At old w p → q.settings ≡ p.settings → q.last ≤ now → CanHear s old now → CanHear s new now
  still_can p at same late can = record {
    routers = record {
      settings = λ x r here. elim (cases_eq x w) [
        | inl e ↦
            let is : q ≡ r = same_some b.at.is (subst (λ (y : ℕ). slice_get new y ≡ Some r) e here.is) in
            let own : Router s w r.settings = subst (λ (t : RouterSettings). Router s w t) (sym same ∙ ap (λ (t : State). t.settings) is) (can.routers.settings w p at) in
            subst (λ (y : ℕ). Router s y r.settings) (sym e) own
        | inr other ↦ can.routers.settings x r (record { is = sym (b.others x other) ∙ here.is })
      ];
      all = λ x r is. elim (cases_eq x w) [
        | inl e ↦ (q, subst (λ (y : ℕ). At new y q) (sym e) b.at)
        | inr other ↦ (let (t, stood) = can.routers.all x r is in (t, record { is = b.others x other ∙ stood.is }))
      ];
    };
    lasts = λ x r here. elim (cases_eq x w) [
      | inl e ↦
          let is : q ≡ r = same_some b.at.is (subst (λ (y : ℕ). slice_get new y ≡ Some r) e here.is) in
          subst (λ (t : State). t.last ≤ now) is late
      | inr other ↦ can.lasts x r (record { is = sym (b.others x other) ∙ here.is })
    ];
  }

-- what a router of the scenario sends, its interfaces send
pub own_frames : (s : Scenario) (w : ℕ) (r : RouterSettings) → Router s w r → (sent : List Frame) → All (IsSendable r) sent → All (IsOfInterface s) (sent_by w sent)
own_frames s w r is [] h = All-nil (IsOfInterface s)
own_frames s w r is (f ∷ fs) h =
    All-cons (IsOfInterface s) (record { router = w; frame = f }) (sent_by w fs) (r, is, (All-head (IsSendable r) f fs h).iface) (own_frames s w r is fs (All-tail (IsSendable r) f fs h))

-- One arc after the other

-- what holds where the arcs before this place were gone through
pub record Turning (s : Scenario) (now : ℕ) (sender : Addr4) (octets : List ℕ) (x i at : ℕ) (old here : List State) (sent : List Transmission) :
    Type 0 where
  pub can : CanHear s here now
  pub owned : All (IsOfInterface s) sent
  pub goes : (new : List State) (more : List Transmission) → AllHear now sender octets (hearers_of (drop at s.arcs) x i) here new more →
      AllHear now sender octets (hearers_of s.arcs x i) old new (sent ++ more)

module _ (s : Scenario) (now : ℕ) (sender : Addr4) (octets : List ℕ) (x i : ℕ) (old : List State) where
  -- the arcs from this place on
  left : (at : ℕ) (arc : RadioArc) → arc ≡ get_or s.arcs at arc → at < length s.arcs → drop at s.arcs ≡ arc ∷ drop (at + 1) s.arcs
  left at arc is less = drop_more s.arcs at arc less ∙ ap (λ (a : RadioArc). a ∷ drop (at + 1) s.arcs) (sym is)

  hearers_left : (at : ℕ) (arc : RadioArc) (b : Bool) → arc ≡ get_or s.arcs at arc → at < length s.arcs → is_arc_from arc x i ≡ b →
      hearers_of (drop at s.arcs) x i ≡ cond b ((arc.to, arc.to_iface) ∷ hearers_of (drop (at + 1) s.arcs) x i) (hearers_of (drop (at + 1) s.arcs) x i)
  hearers_left at arc b is less leads = grind (arith, common_steps, left)

  -- an arc of another interface
  pub passes : (at : ℕ) (arc : RadioArc) (b : Bool) (here : List State) (sent : List Transmission) → arc ≡ get_or s.arcs at arc → at < length s.arcs → b ≡ is_arc_from arc x i → b ≡ false →
      Turning s now sender octets x i at old here sent → Turning s now sender octets x i (at + 1) old here sent
  passes at arc b here sent is less test leads t = grind (arith, common_steps, hearers_left)

  -- an arc of the frame's interface
  pub turns : (at : ℕ) (arc : RadioArc) (b : Bool) (here there : List State) (sent after : List Transmission) → arc ≡ get_or s.arcs at arc → at < length s.arcs → b ≡ is_arc_from arc x i → b ≡ true →
      HearsFrame now sender octets arc.to arc.to_iface here there sent after →
      Turning s now sender octets x i at old here sent → Turning s now sender octets x i (at + 1) old there after
  turns at arc b here there sent after is less test leads h t = record {
    can = still_can h.becomes h.p h.at h.settings h.last t.can;
    owned = subst (λ ts. All (IsOfInterface s) ts) (sym h.sends)
        (All-append (IsOfInterface s) sent (sent_by arc.to h.sent) t.owned (own_frames s arc.to h.p.settings (t.can.routers.settings arc.to h.p h.at) h.sent h.sendable));
    goes = λ new more rest.
        let all : AllHear now sender octets ((arc.to, arc.to_iface) ∷ hearers_of (drop (at + 1) s.arcs) x i) here new (sent_by arc.to h.sent ++ more) = Next_hears h.at h.step h.becomes rest in
        let from : AllHear now sender octets (hearers_of s.arcs x i) old new (sent ++ (sent_by arc.to h.sent ++ more)) =
        t.goes new (sent_by arc.to h.sent ++ more) (subst (λ hearers. AllHear now sender octets hearers here new (sent_by arc.to h.sent ++ more)) (sym (hearers_left at arc true is less (sym test ∙ leads))) all) in
        subst (λ ts. AllHear now sender octets (hearers_of s.arcs x i) old new ts) (sym (append_assoc sent (sent_by arc.to h.sent) more) ∙ ap (λ ts. ts ++ more) (sym h.sends)) from;
  }

  -- all arcs
  pub all_turned : (at : ℕ) (here : List State) (sent : List Transmission) → length s.arcs ≤ at → Turning s now sender octets x i at old here sent →
      AllHear now sender octets (hearers_of s.arcs x i) old here sent
  all_turned at here sent past t =
      let none : hearers_of (drop at s.arcs) x i ≡ [] = ap (λ arcs. hearers_of arcs x i) (drop_all at s.arcs past) in
      let whole = t.goes here [] (subst (λ hearers. AllHear now sender octets hearers here here []) (sym none) All_have_heard) in
      subst (λ ts. AllHear now sender octets (hearers_of s.arcs x i) old here ts) (append-nil sent) whole

-- the router at the end of an arc
pub router_there : (s : Scenario) (now : ℕ) (states : List State) (arc : RadioArc) → CanHear s states now → Contains s.arcs arc →
    (p : State) × At states arc.to p × (p.last ≤ now) × (arc.to_iface < length p.settings.interfaces)
router_there s now states arc can stands =
    let (r, is, less) = arc_leads_to s arc stands in
    let (p, at) = can.routers.all arc.to r is in
    let own : Router s arc.to p.settings = can.routers.settings arc.to p at in
    let same : r ≡ p.settings = same_some is own in
    (p, at, can.lasts arc.to p at, subst (λ (t : RouterSettings). arc.to_iface < length t.interfaces) same less)

pub within : {A : Type 0} (state : A → State) (xs : List A) (w : ℕ) (p : State) → At (map state xs) w p → w < length xs
within state xs w p at = let less = slice_get_within (map state xs) w p at.is in let count = length-map xs state in omega (arith, less, count)

pub item_at : {A : Type 0} (state : A → State) (xs : List A) (i : ℕ) (x : A) → x ≡ get_or xs i x → i < length xs → At (map state xs) i (state x)
item_at state xs i x is less = record { is = slice_get-map state xs i ∙ ap (option_map state) (slice_get_read xs (length xs) i x refl less is) }

-- the state of the router at a place
pub state_there : {A : Type 0} (state : A → State) (xs : List A) (w : ℕ) (p : State) (x : A) → At (map state xs) w p → p ≡ state (get_or xs w x)
state_there state xs w p x at =
    let less : w < length xs = within state xs w p at in
    same_some at.is (slice_get-map state xs w ∙ ap (option_map state) (slice_get-get_or xs w x less))
