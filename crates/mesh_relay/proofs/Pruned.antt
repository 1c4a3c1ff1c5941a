-- Neighbours that are left out one by one.
use Rattle.mesh_relay.proofs.Common.{◌≡◌, ℕ, ◌+◌, ◌≤◌, ◌<◌, ◌≢◌, ◌⊎◌, Bool, true, false, List, length, get_or, set, sym, ◌∙◌, ap, subst, inl, inr, arith, Contains, common_steps, false≢true, cases_lt, get_or-set_same, get_or-set_other, length-set, get_or_default, Addr4, Near, Far, NeighbourGraph, Offers, IsWilling, IsRelay, IsOtherRelay, IsAsCheap, Covers, Needed, HasDistinctIds, Way, AreWilling, IsAt, AreWays, ids_of, IsTaken, reaches, IsDearer, IsPruned}
use Rattle.mesh_relay.proofs.Taken.{taken_of, id_taken, taken_at, HasAlways, covers_taken, dearer_somewhere}

-- Smaller sets

pub offers_more : (g : NeighbourGraph) (A B : Near → Type 0) (y : Addr4) (c : ℕ) → ((n : Near) → A n → B n) → Offers g A y c → Offers g B y c
offers_more g A B y c within o = grind (arith, common_steps)

-- what is dear by way of a set is dear by way of what it holds
abbrev DearFor : NeighbourGraph → (Near → Type 0) → Type 0
DearFor g A = (f : Far) × Contains g.far f × (IsAsCheap g A IsWilling f.addr → ⊥)

dear_for_less : (g : NeighbourGraph) (A B : Near → Type 0) → ((n : Near) → A n → B n) → DearFor g B → DearFor g A
dear_for_less g A B within h = (h.0, h.1, λ cheap. h.2 (λ c o. let w = cheap c o in (w.0, offers_more g A B h.0.addr w.0 within w.1, w.2)))

-- Flags that are cleared

pub not_taken : (ts : List Bool) (place : ℕ) → place < length ts → IsTaken (set ts place false) place → ⊥
not_taken ts place lt e = false≢true (sym (get_or-set_same ts place false false lt) ∙ e)

still_taken : (ts : List Bool) (place k : ℕ) → k ≢ place → IsTaken ts k → IsTaken (set ts place false) k
still_taken ts place k other e = get_or-set_other ts place k false false other ∙ e

was_taken : (ts : List Bool) (place k : ℕ) → k ≢ place → IsTaken (set ts place false) k → IsTaken ts k
was_taken ts place k other e = sym (get_or-set_other ts place k false false other) ∙ e

-- an id that is left is another one, and was there before
pub left_before : (willing : List Near) (ts : List Bool) (place : ℕ) (id : Addr4) → place < length ts → Contains (ids_of willing (set ts place false)) id → Contains (ids_of willing ts) id
left_before willing ts place id lt w =
    let h = taken_of willing (set ts place false) id w in
    let other : h.place ≢ place = λ e. not_taken ts place lt (subst (IsTaken (set ts place false)) e h.taken) in
    subst (Contains (ids_of willing ts)) h.is (id_taken willing ts h.place h.near h.at (was_taken ts place h.place other h.taken))

pub same_near : (ns : List Near) (k : ℕ) (m m' : Near) → IsAt ns k m → IsAt ns k m' → m ≡ m'
same_near ns k m m' a b = sym a.1 ∙ (get_or_default ns k m m' a.0 ∙ b.1)

others_left : (willing : List Near) (ts : List Bool) (place : ℕ) (n : Near) (id : Addr4) → IsAt willing place n → Contains (ids_of willing ts) id → id ≢ n.id →
    Contains (ids_of willing (set ts place false)) id
others_left willing ts place n id at w other =
    let h = taken_of willing ts id w in
    let elsewhere : h.place ≢ place = λ e. other (sym h.is ∙ ap (λ (m : Near). m.id) (same_near willing place h.near n (subst (λ (k : ℕ). IsAt willing k h.near) e h.at) at)) in
    subst (Contains (ids_of willing (set ts place false))) h.is (id_taken willing (set ts place false) h.place h.near h.at (still_taken ts place h.place elsewhere h.taken))

-- Steps

at_or_after : (p k : ℕ) → p ≤ k → (k ≡ p) ⊎ (p + 1 ≤ k)
at_or_after p k le = elim (cases_lt p k) [ inl lt ↦ inr (omega arith) | inr ge ↦ inl (omega arith) ]

-- nothing to do at that place
pub kept_as_is : (g : NeighbourGraph) (willing : List Near) (ts : List Bool) (place : ℕ) → IsPruned g willing ts (place + 1) →
    ((n : Near) → IsAt willing place n → IsTaken ts place → n.will < 15 → ⊥) → IsPruned g willing ts place
kept_as_is g willing ts place h none = record {
  length = h.length;
  covers = h.covers;
  needed = λ k n le at taken below. elim (at_or_after place k le) [
    | inl e ↦ absurd (none n (subst (λ (j : ℕ). IsAt willing j n) e at) (subst (IsTaken ts) e taken) below)
    | inr lt ↦ h.needed k n lt at taken below
  ];
}

pub always_taken : (g : NeighbourGraph) (willing : List Near) (ts : List Bool) → AreWilling g willing → Covers g (ids_of willing ts) → HasAlways willing ts
always_taken g willing ts are covers k n at e =
    taken_at g willing ts k n are at (covers.always n ((are.each n).0 (k, at.0, at.1)).0 e)

always_left : (g : NeighbourGraph) (willing : List Near) (ts : List Bool) (place : ℕ) (m : Near) → AreWilling g willing → Covers g (ids_of willing ts) → IsAt willing place m → m.will < 15 →
    HasAlways willing (set ts place false)
always_left g willing ts place m are covers here below k n at e = grind (arith, common_steps, get_or_default, get_or, still_taken, always_taken)

pub left_out : (g : NeighbourGraph) (willing : List Near) (ways : List Way) (ts : List Bool) (place : ℕ) (m : Near) → AreWilling g willing → AreWays g willing ways →
    IsPruned g willing ts (place + 1) → IsAt willing place m → m.will < 15 → reaches ways (set ts place false) ≡ true → IsPruned g willing (set ts place false) place
left_out g willing ways ts place m are are-ways h here below all =
    let lt : place < length ts = (let e : length ts ≡ length willing = h.length in let l : place < length willing = here.0 in omega arith) in
    record {
      length = length-set ts place false ∙ h.length;
      covers = covers_taken g willing ways (set ts place false) are are-ways (always_left g willing ts place m are h.covers here below) all;
      needed = λ k n le at taken below'.
          let elsewhere : k ≢ place = λ e. not_taken ts place lt (subst (IsTaken (set ts place false)) e taken) in
          let later : place + 1 ≤ k = omega arith in
          dear_for_less g (IsOtherRelay (ids_of willing (set ts place false)) n.id) (IsOtherRelay (ids_of willing ts) n.id)
          (λ x w. (left_before willing ts place x.id lt w.0, w.1))
          (h.needed k n later at (was_taken ts place k elsewhere taken) below');
    }

pub left_in : (g : NeighbourGraph) (willing : List Near) (ways : List Way) (ts : List Bool) (place : ℕ) → HasDistinctIds g → AreWilling g willing → AreWays g willing ways →
    IsPruned g willing ts (place + 1) → reaches ways (set ts place false) ≡ false → IsPruned g willing ts place
left_in g willing ways ts place distinct are are-ways h none = record {
  length = h.length;
  covers = h.covers;
  needed = λ k n le at taken below. elim (at_or_after place k le) [
    | inl e ↦
        let here = subst (λ (j : ℕ). IsAt willing j n) e at in
        dear_for_less g (IsOtherRelay (ids_of willing ts) n.id) (IsRelay (ids_of willing (set ts place false)))
        (λ x w. others_left willing ts place n x.id here w.0 w.1)
        (dearer_somewhere g willing ways (set ts place false) distinct are are-ways none)
    | inr lt ↦ h.needed k n lt at taken below
  ];
}

pub dearer_without : (g : NeighbourGraph) (willing : List Near) (ways : List Way) (ts : List Bool) (place : ℕ) (n : Near) → HasDistinctIds g → AreWilling g willing → AreWays g willing ways →
    IsAt willing place n → reaches ways (set ts place false) ≡ false → IsDearer g (ids_of willing ts) n.id
dearer_without g willing ways ts place n distinct are are-ways here none =
    dear_for_less g (IsOtherRelay (ids_of willing ts) n.id) (IsRelay (ids_of willing (set ts place false)))
    (λ x w. others_left willing ts place n x.id here w.0 w.1)
    (dearer_somewhere g willing ways (set ts place false) distinct are are-ways none)

pub finish : (g : NeighbourGraph) (willing : List Near) (ts : List Bool) → AreWilling g willing → IsPruned g willing ts 0 → Needed g (ids_of willing ts)
finish g willing ts are h = record {
  missed = λ n near relay willing' below.
      let at = (are.each n).1 (near, willing') in
      let d = h.needed at.0 n (omega arith) (at.1, at.2) (taken_at g willing ts at.0 n are (at.1, at.2) relay) below in
      (d.0, d.1, λ distance. d.2 distance.0);
}

pub at_end : (g : NeighbourGraph) (willing : List Near) (ts : List Bool) (left : ℕ) → AreWilling g willing → left ≤ 0 → IsPruned g willing ts left → Needed g (ids_of willing ts)
at_end g willing ts left are le h = let e : left ≡ 0 = omega arith in finish g willing ts are (subst (λ (k : ℕ). IsPruned g willing ts k) e h)

read_at : (ns : List Near) (k : ℕ) (d : Near) → k < length ns → IsAt ns k (get_or ns k d)
read_at ns k d lt = (lt, get_or_default ns k (get_or ns k d) d lt)

-- what `leave_out` ensures
abbrev pub IsLeftOut : List Way → List Bool → List Bool → ℕ → Type 0
IsLeftOut ways old new place =
    ((new ≡ set old place false) × (reaches ways new ≡ true)) ⊎ ((new ≡ old) × (reaches ways (set old place false) ≡ false))

pub step : (g : NeighbourGraph) (willing : List Near) (ways : List Way) (old new : List Bool) (place : ℕ) (d : Near) → HasDistinctIds g → AreWilling g willing → AreWays g willing ways →
    IsPruned g willing old (place + 1) → place < length willing → (get_or willing place d).will < 15 → IsLeftOut ways old new place → IsPruned g willing new place
step g willing ways old new place d distinct are are-ways h lt below did = elim did [
  | inl out ↦ subst (λ (ts : List Bool). IsPruned g willing ts place) (sym out.0)
      (left_out g willing ways old place (get_or willing place d) are are-ways h (read_at willing place d lt) below (subst (λ (ts : List Bool). reaches ways ts ≡ true) out.0 out.1))
  | inr in' ↦ subst (λ (ts : List Bool). IsPruned g willing ts place) (sym in'.0) (left_in g willing ways old place distinct are are-ways h in'.1)
]

pub kept_by_willingness : (g : NeighbourGraph) (willing : List Near) (ts : List Bool) (place : ℕ) (d : Near) → IsPruned g willing ts (place + 1) → 15 ≤ (get_or willing place d).will → IsPruned g willing ts place
kept_by_willingness g willing ts place d h le = grind (arith, common_steps, kept_as_is, get_or, same_near, read_at)

pub kept_untaken : (g : NeighbourGraph) (willing : List Near) (ts : List Bool) (place : ℕ) → IsPruned g willing ts (place + 1) → get_or ts place false ≡ false → IsPruned g willing ts place
kept_untaken g willing ts place h e = kept_as_is g willing ts place h (λ n at taken below. false≢true (sym e ∙ taken))
