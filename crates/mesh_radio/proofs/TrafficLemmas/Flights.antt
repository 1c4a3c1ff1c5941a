-- The ordered map of flights against the list in order of sending.
use Rattle.mesh_radio.proofs.Common.{common_steps, ◌≡◌, ℕ, ◌+◌, ◌<◌, ◌≤◌, ◌⊎◌, inl, inr, List, [], ◌∷◌, ◌++◌, refl, sym, ◌∙◌, ap, subst, All, Bool, true, false, arith, nat_lt, map, map-append, All-nil, All-cons, All-head, All-tail, All-weaker, All-map, Delivery, IsHeardFirst}
use Rattle.std.specs.Ordering.{nat_cmp, ordering_then, is_gt}
use Rattle.std.specs.declared.cmp.Ordering.{Ordering}
use Rattle.std.specs.declared.cmp.Ordering.TheVariants.{Less, Equal, Greater}
use Rattle.std.specs.Ordering.{match_ordering}
use Rattle.std.specs.Map.{keys_of}
use Rattle.std.specs.BTreeMap.{insert_entry}
use Rattle.std.proofs.lemmas.Bool.{lt-ltb, ltb-false}
use Rattle.std.proofs.lemmas.Cmp.{ranked}
use Rattle.std.proofs.lemmas.Map.Views.{All-keys-insert_entry}
use Rattle.mesh_radio.specs.declared.traffic.air.DeliveryOrder.{DeliveryOrder}
use Rattle.mesh_radio.specs.declared.traffic.air.FrameInFlight.{FrameInFlight}
use Rattle.mesh_radio.specs.Traffic.Flights.{FlightEntry, flight_of, insert_by_number, by_number, in_order, turn_cmp, AreNumberedBelow}
use Rattle.mesh_atoms.proofs.NetOrder.{then_less}

-- Comparing turns

then_equal : (o p : Ordering) → ordering_then o p ≡ Equal → p ≡ Equal
then_equal o p e = grind (arith, common_steps)

-- one turn comes before another
abbrev Before : DeliveryOrder → DeliveryOrder → Type 0
Before a b = (a.moment < b.moment) ⊎ ((a.moment ≡ b.moment) × (a.number < b.number))

turn_less : (a b : DeliveryOrder) → turn_cmp a b ≡ Less → Before a b
turn_less a b e = grind (arith, common_steps, then_less, ranked)

turn_equal : (a b : DeliveryOrder) → turn_cmp a b ≡ Equal → a.number ≡ b.number
turn_equal a b e = ranked a.number b.number Equal (sym (then_equal (nat_cmp a.moment b.moment) (nat_cmp a.number b.number) e))

no_earlier : (a b : DeliveryOrder) → Before a b → a.moment ≤ b.moment
no_earlier a b h2 = grind (arith, common_steps)

le_gt : (o p : Ordering) → is_gt (ordering_then o p) ≡ false → (o ≡ Less) ⊎ (o ≡ Equal)
le_gt o p e = grind (arith, common_steps)

-- no turn is earlier than the least
pub turn_from : (a b : DeliveryOrder) → is_gt (turn_cmp a b) ≡ false → a.moment ≤ b.moment
turn_from a b e = grind (arith, common_steps, le_gt, ranked)

-- What holds of all

All-inserted : (P : FlightEntry → Type 0) (e : FlightEntry) (es : List FlightEntry) → P e → All P es → All P (insert_by_number e es)
All-inserted P e [] p h = All-cons P e [] p h
All-inserted P e (f ∷ fs) p h = grind (arith, common_steps, All-cons, All-head, All-tail, (All-inserted P e fs p (All-tail P f fs h)))

pub All-by_number : (P : FlightEntry → Type 0) (es : List FlightEntry) → All P es → All P (by_number es)
All-by_number P [] h = h
All-by_number P (e ∷ es) h = All-inserted P e (by_number es) (All-head P e es h) (All-by_number P es (All-tail P e es h))

pub All-of_keys : (P : DeliveryOrder → Type 0) (es : List FlightEntry) → All P (keys_of es) → All (λ e. P e.0) es
All-of_keys P [] h = All-nil (λ e. P e.0)
All-of_keys P (e ∷ es) h = All-cons (λ e. P e.0) e es (All-head P e.0 (keys_of es) h) (All-of_keys P es (All-tail P e.0 (keys_of es) h))

-- what holds of all deliveries, from what holds of all keys
pub All-in_order : (P : Delivery → Type 0) (es : List FlightEntry) → All (λ e. P (flight_of e)) es → All P (in_order es)
All-in_order P es h = All-map P flight_of (by_number es) (All-by_number (λ e. P (flight_of e)) es h)

-- A delivery is put in the air

insert_last : (e : FlightEntry) (es : List FlightEntry) → All (λ f. f.0.number < e.0.number) es → insert_by_number e es ≡ es ++ e ∷ []
insert_last e [] h = refl
insert_last e (f ∷ fs) h = grind (arith, common_steps, All-head, All-tail, (insert_last e fs (All-tail (λ (f : FlightEntry). f.0.number < e.0.number) f fs h)))

insert_before : (e k : FlightEntry) (es : List FlightEntry) → e.0.number < k.0.number → insert_by_number e (es ++ k ∷ []) ≡ insert_by_number e es ++ k ∷ []
insert_before e k [] h = rw (lt-ltb e.0.number k.0.number h) refl
insert_before e k (f ∷ fs) h = grind (arith, common_steps, (insert_before e k fs h))

put_by_number : (k : DeliveryOrder) (v : FrameInFlight) (es : List FlightEntry) → All (λ f. f.0.number < k.number) es → by_number (insert_entry turn_cmp es k v) ≡ by_number es ++ (k, v) ∷ []
put_by_number k v [] h = refl
put_by_number k v (e ∷ es) h = at (turn_cmp k e.0) refl (put_by_number k v es (All-tail (λ (f : FlightEntry). f.0.number < k.number) e es h))
  where
    below : e.0.number < k.number
    below = All-head (λ (f : FlightEntry). f.0.number < k.number) e es h

    at : (o : Ordering) → turn_cmp k e.0 ≡ o → by_number (insert_entry turn_cmp es k v) ≡ by_number es ++ (k, v) ∷ [] → by_number (match_ordering o ((k, v) ∷ e ∷ es) ((e.0, v) ∷ es) (e ∷ insert_entry turn_cmp es k v)) ≡ by_number (e ∷ es) ++ (k, v) ∷ []
    at Less is more = insert_last (k, v) (by_number (e ∷ es)) (All-by_number (λ f. f.0.number < k.number) (e ∷ es) h)
    at Equal is more = absurd (let same = turn_equal k e.0 is in omega (arith, same, below))
    at Greater is more = ap (insert_by_number e) more ∙ insert_before e (k, v) (by_number es) below

pub put_in_order : (made : ℕ) (k : DeliveryOrder) (v : FrameInFlight) (es : List FlightEntry) → k.number ≡ made → AreNumberedBelow made es → in_order (insert_entry turn_cmp es k v) ≡ in_order es ++ flight_of (k, v) ∷ []
put_in_order made k v es is h =
    let below : All (λ (t : DeliveryOrder). t.number < k.number) (keys_of es) = rw is h in
    ap (map flight_of) (put_by_number k v es (All-of_keys (λ t. t.number < k.number) es below)) ∙ map-append flight_of (by_number es) ((k, v) ∷ [])

pub put_made : (made : ℕ) (k : DeliveryOrder) (v : FrameInFlight) (es : List FlightEntry) → k.number ≡ made → AreNumberedBelow made es → AreNumberedBelow (made + 1) (insert_entry turn_cmp es k v)
put_made made k v es is h =
    All-keys-insert_entry turn_cmp k v (λ t. t.number < made + 1) es (All-weaker (λ (t : DeliveryOrder). t.number < made) (λ (t : DeliveryOrder). t.number < made + 1) (λ t b. omega arith) (keys_of es) h) (omega (arith, is))

-- The first delivery is heard

record Splits (p : FlightEntry) (fs : List FlightEntry) : Type 0 where
  before : List FlightEntry
  behind : List FlightEntry
  whole : insert_by_number p fs ≡ before ++ p ∷ behind
  others : fs ≡ before ++ behind
  later : All (λ e. p.0.moment < e.0.moment) before
  from : All (λ e. p.0.moment ≤ e.0.moment) behind

splits : (p : FlightEntry) (fs : List FlightEntry) → All (λ e. Before p.0 e.0) fs → Splits p fs
splits p [] h = record { before = []; behind = []; whole = refl; others = refl; later = All-nil (λ e. p.0.moment < e.0.moment); from = All-nil (λ e. p.0.moment ≤ e.0.moment) }
splits p (f ∷ fs) h = at (nat_lt p.0.number f.0.number) refl (splits p fs (All-tail (λ (e : FlightEntry). Before p.0 e.0) f fs h))
  where
    at : (b : Bool) → nat_lt p.0.number f.0.number ≡ b → Splits p fs → Splits p (f ∷ fs)
    at true is more = record {
      before = [];
      behind = f ∷ fs;
      whole = rw is refl;
      others = refl;
      later = All-nil (λ e. p.0.moment < e.0.moment);
      from = All-weaker (λ (e : FlightEntry). Before p.0 e.0) (λ (e : FlightEntry). p.0.moment ≤ e.0.moment) (λ e b. no_earlier p.0 e.0 b) (f ∷ fs) h;
    }
    at false is more =
        let above : f.0.number ≤ p.0.number = ltb-false p.0.number f.0.number is in
        let after : p.0.moment < f.0.moment = elim (All-head (λ (e : FlightEntry). Before p.0 e.0) f fs h) [ inl m ↦ m | inr q ↦ absurd (let below = q.1 in omega (arith, below, above)) ] in
        record {
          before = f ∷ more.before;
          behind = more.behind;
          whole = rw is (ap (λ l. f ∷ l) more.whole);
          others = ap (λ l. f ∷ l) more.others;
          later = All-cons (λ (e : FlightEntry). p.0.moment < e.0.moment) f more.before after more.later;
          from = more.from;
        }

pub first_in_order : (p : FlightEntry) (es : List FlightEntry) → All (λ t. turn_cmp p.0 t ≡ Less) (keys_of es) → IsHeardFirst (in_order (p ∷ es)) (flight_of p) (in_order es)
first_in_order p es h =
    let apart : All (λ (e : FlightEntry). Before p.0 e.0) es = All-weaker (λ (e : FlightEntry). turn_cmp p.0 e.0 ≡ Less) (λ (e : FlightEntry). Before p.0 e.0) (λ e l. turn_less p.0 e.0 l) es (All-of_keys (λ t. turn_cmp p.0 t ≡ Less) es h) in
    let s = splits p (by_number es) (All-by_number (λ e. Before p.0 e.0) es apart) in
    record {
      before = map flight_of s.before;
      behind = map flight_of s.behind;
      whole = ap (map flight_of) s.whole ∙ map-append flight_of s.before (p ∷ s.behind);
      later = All-map (λ d. p.0.moment < d.moment) flight_of s.before s.later;
      no_earlier = All-map (λ d. p.0.moment ≤ d.moment) flight_of s.behind s.from;
      left = ap (map flight_of) s.others ∙ map-append flight_of s.before s.behind;
    }

-- all are later than a moment where the first is
pub all_later : (limit : ℕ) (t : DeliveryOrder) (es : List FlightEntry) → limit < t.moment → All (λ q. is_gt (turn_cmp t q) ≡ false) (keys_of es) → All (λ d. limit < d.moment) (in_order es)
all_later limit t es lt h =
    All-in_order (λ d. limit < d.moment) es (All-weaker (λ (e : FlightEntry). is_gt (turn_cmp t e.0) ≡ false) (λ (e : FlightEntry). limit < e.0.moment) (λ e g. let no = turn_from t e.0 g in omega (arith, no, lt)) es (All-of_keys (λ q. is_gt (turn_cmp t q) ≡ false) es h))

pub rest_made : (made : ℕ) (p : FlightEntry) (old es : List FlightEntry) → old ≡ p ∷ es → AreNumberedBelow made old → AreNumberedBelow made es
rest_made made p old es is h = All-tail (λ t. t.number < made) p.0 (keys_of es) (subst (AreNumberedBelow made) is h)

pub first_of : (old es : List FlightEntry) (p : FlightEntry) → old ≡ p ∷ es → All (λ t. turn_cmp p.0 t ≡ Less) (keys_of es) → IsHeardFirst (in_order old) (flight_of p) (in_order es)
first_of old es p is h = rw is (first_in_order p es h)
