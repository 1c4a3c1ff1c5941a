-- What flies, and the frame in the air that is heard first.
use Rattle.mesh_replay.proofs.Common.{common_steps, ◌≡◌, ℕ, ◌+◌, ◌<◌, ◌≤◌, List, [], ◌∷◌, ap, zero, suc, length, get_or, map, All, arith, refl, Some, Result, Ok, Err, slice_get, IfOk, OnOk, remove, All-nil, All-cons, All-map, slice_get_within, slice_get_read, slice_get-get_or, IsHeardFirst, Traffic, Sends, leaving, same_at, Delivered, delivery_of, IsNextFrame, AreNoEarlier, item_at as stands, Scenario, sent_all, numbered}
use Rattle.mesh_atoms.specs.declared.network.Emission.{Emission}

-- ---- The frame in the air that is heard first.

-- the first of none
pub least_of_none : (flights : List Delivered) → 0 < length flights → IsNextFrame flights 0 0
least_of_none flights some = let (f, at) = stands flights 0 some in record {
  flight = f;
  stands = at;
  no_earlier = λ i g there below. absurd (omega (arith, below));
  later = λ i g there below. absurd (omega (arith, below));
}

-- what stands there
pub read_as : (flights : List Delivered) (count place : ℕ) (e : Delivered) → (h : IsNextFrame flights count place) → e ≡ get_or flights place e → h.flight ≡ e
read_as flights count place e h is = same_at flights place h.flight e h.stands (slice_get_read flights (length flights) place e refl (slice_get_within flights place h.flight h.stands) is)

-- reading at its place gives it
pub read_there : (flights : List Delivered) (count place : ℕ) → (h : IsNextFrame flights count place) → get_or flights place h.flight ≡ h.flight
read_there flights count place h = grind (arith, common_steps, same_at, slice_get-get_or, slice_get_within)

-- the first of some that is heard no later than any of all is the first of all
pub is_first_of_all : (least : ℕ) (flights : List Delivered) (count place : ℕ) → AreNoEarlier least flights → (h : IsNextFrame flights count place) → h.flight.moment ≤ least → IsNextFrame flights (length flights) place
is_first_of_all least flights count place all h le = record {
  flight = h.flight;
  stands = h.stands;
  no_earlier = λ i g there within.
      let is : get_or flights i g ≡ g = same_at flights i (get_or flights i g) g (slice_get-get_or flights i g within) there in
      let no : least ≤ g.moment = rw (← is) (all i g within) in
      omega (arith, no, le);
  later = h.later;
}

module _ (flights : List Delivered) (count place : ℕ) (f : Delivered) (at : slice_get flights count ≡ Some f) (h : IsNextFrame flights count place) where
  -- one more, which is earlier than all before it
  pub is_earlier : f.moment < h.flight.moment → IsNextFrame flights (count + 1) count
  is_earlier lt = grind (arith, common_steps, same_at)

  -- one more, which is no earlier
  pub is_no_earlier : h.flight.moment ≤ f.moment → IsNextFrame flights (count + 1) place
  is_no_earlier le = grind (arith, common_steps, same_at)

-- what holds at each place holds of all deliveries
all_at : (P : ℕ → Type 0) (flights : List Delivered) → ((i : ℕ) (f : Delivered) → slice_get flights i ≡ Some f → P f.moment) → All (λ d. P d.moment) (map delivery_of flights)
all_at P flights h = All-map (λ d. P d.moment) delivery_of flights (λ k d below. h k (get_or flights k d) (slice_get-get_or flights k d below))

-- the frame at a place is heard first, and the others stay
pub heard_at : (flights : List Delivered) (place : ℕ) (f : Delivered) → slice_get flights place ≡ Some f → ((i : ℕ) (e : Delivered) → slice_get flights i ≡ Some e → f.moment ≤ e.moment) →
    ((i : ℕ) (e : Delivered) → slice_get flights i ≡ Some e → i < place → f.moment < e.moment) → IsHeardFirst (map delivery_of flights) (delivery_of f) (map delivery_of (remove flights place))
heard_at [] place f at from later = absurd (cc)
heard_at (g ∷ gs) zero f at from later = let same : g ≡ f = cc in record {
  before = [];
  behind = map delivery_of gs;
  whole = ap (λ (e : Delivered). delivery_of e ∷ map delivery_of gs) same;
  later = All-nil (λ d. f.moment < d.moment);
  no_earlier = all_at (λ m. f.moment ≤ m) gs (λ i e there. from (suc i) e there);
  left = refl;
}
heard_at (g ∷ gs) (suc place) f at from later =
    let more = heard_at gs place f at (λ i e there. from (suc i) e there) (λ i e there below. later (suc i) e there (omega (arith, below))) in
    record {
      before = delivery_of g ∷ more.before;
      behind = more.behind;
      whole = ap (λ l. delivery_of g ∷ l) more.whole;
      later = All-cons (λ d. f.moment < d.moment) (delivery_of g) more.before (later zero g refl (omega arith)) more.later;
      no_earlier = more.no_earlier;
      left = ap (λ l. delivery_of g ∷ l) more.left;
    }

pub heard_first : (flights : List Delivered) (place : ℕ) (f : Delivered) → (h : IsNextFrame flights (length flights) place) → f ≡ h.flight → IsHeardFirst (map delivery_of flights) (delivery_of f) (map delivery_of (remove flights place))
heard_first flights place f h is = rw is (heard_at flights place h.flight h.stands (λ i e there. h.no_earlier i e there (slice_get_within flights i e there)) h.later)

-- all are later than a moment where the first is
pub all_later : (limit : ℕ) (flights : List Delivered) (place : ℕ) → (h : IsNextFrame flights (length flights) place) → limit < h.flight.moment → All (λ d. limit < d.moment) (map delivery_of flights)
all_later limit flights place h late = all_at (λ m. limit < m) flights (λ i e there. let no = h.no_earlier i e there (slice_get_within flights i e there) in omega (arith, no, late))

-- ---- What flies, flies by arcs of the scenario.

-- and so does what is sent
pub still_flying : (s : Scenario) (now x : ℕ) (e : Emission) (old new : Traffic) → Sends s now x e old new → All (λ d. d.arc < length s.arcs) old.air → All (λ d. d.arc < length s.arcs) new.air
still_flying s now x e old new sends h =
    sent_all (λ d. d.arc < length s.arcs) s now x (e ∷ []) old new
    (All-cons (λ (e : Emission). All (λ a. a.0 < length s.arcs) (leaving s.arcs x e.iface)) e [] (numbered s.arcs x e.iface) (All-nil (λ (e : Emission). All (λ a. a.0 < length s.arcs) (leaving s.arcs x e.iface))))
    (new, sends, refl) h

-- whatever comes of it
pub all_flying : {E : Type 0} (s : Scenario) (now x iface : ℕ) (frame : List ℕ) (r : Result (List ℕ) E) (old new : Traffic) →
    IfOk r (λ lost. Sends s now x (record { iface = iface; frame = frame; lost = lost }) old new) → OnOk r (All (λ d. d.arc < length s.arcs) old.air → All (λ d. d.arc < length s.arcs) new.air)
all_flying s now x iface frame (Ok lost) old new sends = λ h. still_flying s now x (record { iface = iface; frame = frame; lost = lost }) old new sends h
all_flying s now x iface frame (Err e) old new sends = tt
