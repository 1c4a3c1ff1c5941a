-- What the notes say of the set that is taken.
use Rattle.mesh_relay.proofs.Common.{◌≡◌, ℕ, ◌≤◌, ◌<◌, Bool, true, false, ◌&&◌, not, List, [], ◌∷◌, length, get_or, set, zero, suc, refl, sym, ◌∙◌, ap, subst, inl, inr, arith, ◌↔◌, Contains, IsTrue, MatchBool, common_steps, false≢true, cases_Bool, or_cases, or_right, or_left, get_or_past, Addr4, Near, NeighbourGraph, IsWilling, IsRelay, IsOtherRelay, IsAsCheap, Covers, Needed, HasDistinctIds, Way, AreWilling, IsAt, AreWays, ids_of, IsTaken, reaches, is_fit, AreFit}
use Rattle.mesh_relay.proofs.Taken.{taken_of, id_taken, taken_at, covers_taken, keeps_costs, dearer_somewhere}
use Rattle.mesh_relay.proofs.Pruned.{offers_more, not_taken, left_before, always_taken, dearer_without}
use Rattle.mesh_relay.proofs.Willing.{one_place}

set_past : (ts : List Bool) (k : ℕ) → length ts ≤ k → set ts k false ≡ ts
set_past [] k le = refl
set_past (t ∷ ts) zero le = absurd (omega (arith, le))
set_past (t ∷ ts) (suc k) le = ap (λ (l : List Bool). t ∷ l) (set_past ts k (omega (arith, le)))

-- the notes of a pass that began with none
abbrev pub IsNotedFor : List Way → List Bool → List Bool → Bool → Type 0
IsNotedFor ways ts soles reached = (k : ℕ) → (reached && not (get_or soles k false)) ≡ reaches ways (set ts k false)

and_not_false : (a x : Bool) → x ≡ false → a ≡ (a && not x)
and_not_false a x e = grind (arith, common_steps)

reached_is : (ways : List Way) (ts soles : List Bool) (reached : Bool) → length soles ≡ length ts → IsNotedFor ways ts soles reached → reached ≡ reaches ways ts
reached_is ways ts soles reached len h =
    and_not_false reached (get_or soles (length ts) false) (get_or_past soles (length ts) false (omega (arith, len)))
    ∙ (h (length ts) ∙ ap (λ (l : List Bool). reaches ways l) (set_past ts (length ts) (omega arith)))

-- Where each neighbour is fit

fit_always : (n : Near) (t s : Bool) → is_fit n t s ≡ true → n.will ≡ 15 → t ≡ true
fit_always n t s e will = grind (arith, common_steps)

fit_sole : (n : Near) (t s : Bool) → is_fit n t s ≡ true → t ≡ true → n.will < 15 → s ≡ true
fit_sole n t s e taken below = grind (arith, common_steps, or_cases)

abbrev pub IsChosen : NeighbourGraph → List Addr4 → Type 0
IsChosen g ids = Covers g ids × Needed g ids

missed_at : (ways : List Way) (ts soles : List Bool) (k : ℕ) → IsNotedFor ways ts soles true → get_or soles k false ≡ true → reaches ways (set ts k false) ≡ false
missed_at ways ts soles k h e = sym (h k) ∙ ap (λ x. not x) e

pub chosen_if : (g : NeighbourGraph) (willing : List Near) (ways : List Way) (ts soles : List Bool) → HasDistinctIds g → AreWilling g willing → AreWays g willing ways →
    length soles ≡ length ts → IsNotedFor ways ts soles true → AreFit willing ts soles → IsChosen g (ids_of willing ts)
chosen_if g willing ways ts soles distinct are are-ways len h fit = (
  covers_taken g willing ways ts are are-ways
      (λ k n at will. fit_always n (get_or ts k false) (get_or soles k false) (fit k n at) will)
      (sym (reached_is ways ts soles true len h)),
  record {
    missed = λ n near relay willing' below.
        let at = (are.each n).1 (near, willing') in
        let here : IsAt willing at.0 n = (at.1, at.2) in
        let taken = taken_at g willing ts at.0 n are here relay in
        let sole = fit_sole n (get_or ts at.0 false) (get_or soles at.0 false) (fit at.0 n here) taken below in
        let d = dearer_without g willing ways ts at.0 n distinct are are-ways here (missed_at ways ts soles at.0 h sole) in
        (d.0, d.1, λ distance. d.2 distance.0);
  },
)

-- Where one isn't

pub not_reached : (g : NeighbourGraph) (willing : List Near) (ways : List Way) (ts soles : List Bool) → HasDistinctIds g → AreWilling g willing → AreWays g willing ways →
    length soles ≡ length ts → IsNotedFor ways ts soles false → IsChosen g (ids_of willing ts) → ⊥
not_reached g willing ways ts soles distinct are are-ways len h chosen =
    let d = dearer_somewhere g willing ways ts distinct are are-ways (sym (reached_is ways ts soles false len h)) in
    d.2 (λ c o. chosen.0.as_cheap d.0 c d.1 o)

other_left : (g : NeighbourGraph) (willing : List Near) (ts : List Bool) (k : ℕ) (n x : Near) → AreWilling g willing → IsAt willing k n → k < length ts →
    Contains (ids_of willing (set ts k false)) x.id → IsOtherRelay (ids_of willing ts) n.id x
other_left g willing ts k n x are at lt w = (
  left_before willing ts k x.id lt w,
  λ same'.
      let h = taken_of willing (set ts k false) x.id w in
      not_taken ts k lt (subst (IsTaken (set ts k false)) (one_place willing h.place k h.near n are.order h.at at (h.is ∙ same')) h.taken),
)

le-same : (n : ℕ) → n ≤ n
le-same n = omega arith

others_willing : (g : NeighbourGraph) (ids : List Addr4) (id y : Addr4) → HasDistinctIds g → Covers g ids → IsAsCheap g IsWilling (IsOtherRelay ids id) y
others_willing g ids id y distinct covers c o = elim o [
  | inl d ↦ (c, inl d, le-same c)
  | inr m ↦
      let w = covers.willing m.0.id m.2.0 in
      let will : IsWilling m.0 = subst IsWilling (distinct w.0 m.0 w.1 m.1 w.2) w.3 in
      (c, inr (m.0, m.1, will, m.3, m.4, m.5, m.6, m.7), le-same c)
]

not_missed : (g : NeighbourGraph) (willing : List Near) (ways : List Way) (ts : List Bool) (k : ℕ) (n : Near) → HasDistinctIds g → AreWilling g willing → AreWays g willing ways →
    length ts ≡ length willing → IsChosen g (ids_of willing ts) → IsAt willing k n → IsTaken ts k → reaches ways (set ts k false) ≡ true → n.will < 15 → ⊥
not_missed g willing ways ts k n distinct are are-ways len chosen at taken all below =
    let known = (are.each n).0 (k, at.0, at.1) in
    let lt : k < length ts = (let l : k < length willing = at.0 in omega arith) in
    let m = chosen.1.missed n known.0 (id_taken willing ts k n at taken) known.1 below in
    m.2 (
      λ c o.
          let r = keeps_costs g willing ways (set ts k false) are are-ways all m.0.addr c o in
          (r.0, offers_more g (IsRelay (ids_of willing (set ts k false))) (IsOtherRelay (ids_of willing ts) n.id) m.0.addr r.0 (λ x w. other_left g willing ts k n x are at lt w) r.1, r.2),
      others_willing g (ids_of willing ts) n.id m.0.addr distinct chosen.0,
    )

fit_cases : (g : NeighbourGraph) (willing : List Near) (ways : List Way) (ts soles : List Bool) (k : ℕ) (n : Near) (t s : Bool) → HasDistinctIds g → AreWilling g willing → AreWays g willing ways →
    length ts ≡ length willing → IsNotedFor ways ts soles true → IsChosen g (ids_of willing ts) → IsAt willing k n → get_or ts k false ≡ t → get_or soles k false ≡ s → is_fit n t s ≡ true
fit_cases g willing ways ts soles k n t s distinct are are-ways len h chosen at t16 s17 = grind (arith, common_steps, or_right, or_left, not_missed, cases_Bool, always_taken)

pub fit_if : (g : NeighbourGraph) (willing : List Near) (ways : List Way) (ts soles : List Bool) → HasDistinctIds g → AreWilling g willing → AreWays g willing ways →
    length ts ≡ length willing → IsNotedFor ways ts soles true → IsChosen g (ids_of willing ts) → AreFit willing ts soles
fit_if g willing ways ts soles distinct are are-ways len h chosen k n at = grind (arith, common_steps, fit_cases)

pub chosen_by : (g : NeighbourGraph) (willing : List Near) (ways : List Way) (ts soles : List Bool) (reached b : Bool) → HasDistinctIds g → AreWilling g willing → AreWays g willing ways →
    length ts ≡ length willing → length soles ≡ length willing → IsNotedFor ways ts soles reached → reached ≡ true → MatchBool b (AreFit willing ts soles) (AreFit willing ts soles → ⊥) →
    IsTrue b ↔ IsChosen g (ids_of willing ts)
chosen_by g willing ways ts soles reached true distinct are are-ways len len' h is fit = (
  λ _. chosen_if g willing ways ts soles distinct are are-ways (len' ∙ sym len) (subst (λ (r : Bool). IsNotedFor ways ts soles r) is h) fit,
  λ _. refl,
)
chosen_by g willing ways ts soles reached false distinct are are-ways len len' h is unfit = grind (arith, common_steps, false≢true, fit_if)

pub unchosen : (g : NeighbourGraph) (willing : List Near) (ways : List Way) (ts soles : List Bool) (reached : Bool) → HasDistinctIds g → AreWilling g willing → AreWays g willing ways →
    length ts ≡ length willing → length soles ≡ length willing → IsNotedFor ways ts soles reached → reached ≡ false → IsTrue false ↔ IsChosen g (ids_of willing ts)
unchosen g willing ways ts soles reached distinct are are-ways len len' h is = grind (arith, common_steps, false≢true, not_reached)
