-- The willing neighbours in order.
use Rattle.mesh_relay.proofs.Common.{◌≡◌, ℕ, ◌≤◌, ◌<◌, Bool, true, false, cond, not, nat_eq, List, [], ◌∷◌, get_or, zero, suc, refl, sym, ◌∙◌, ap, subst, inl, inr, arith, Contains, AllPairs, filter, IsPermutation, common_steps, dedup, dedup_from, IsNonDecreasingBy, eqb-true, get_or_default, Contains-get_or, Contains-permutation, IsPermutation-sym, Addr4, Near, NeighbourGraph, IsWilling, HasDistinctIds, AreWilling, IsAt, Decides-not, Decides-eqb, contains_none, contains_filter_cases as passes, contains_filter as stays, contains_cases}
use Rattle.mesh_relay.proofs.Lists.{dedup_cases, kept_within, joined}

abbrev pub has_same_id : Near → Near → Bool
has_same_id next last = nat_eq next.id.0 last.id.0

abbrev IsBelow : Near → Near → Type 0
IsBelow m n = m.id.0 < n.id.0

-- ids that don't fall from that neighbour on
abbrev Rises : Near → List Near → Type 0
Rises k [] = Unit {0}
Rises k (x ∷ xs) = (k.id.0 ≤ x.id.0) × Rises x xs

rises_lower : (j k : Near) (xs : List Near) → j.id.0 ≤ k.id.0 → Rises k xs → Rises j xs
rises_lower j k [] le h = tt
rises_lower j k (x ∷ xs) le h = let e : k.id.0 ≤ x.id.0 = h.0 in (omega arith, h.1)

rises_from_sorted : (k : Near) (xs : List Near) → IsNonDecreasingBy (λ (n : Near). n.id.0) (k ∷ xs) → Rises k xs
rises_from_sorted k [] up = tt
rises_from_sorted k (x ∷ xs) up = (up 0 1 k (omega arith) (omega arith), rises_from_sorted x xs (λ i j d le lt. up (suc i) (suc j) d (omega arith) (omega arith)))

unequal_ids : (x k : Near) → has_same_id x k ≡ false → k.id.0 ≤ x.id.0 → k.id.0 < x.id.0
unequal_ids x k e le = grind (arith, common_steps)

above_first : (k : Near) (xs : List Near) (m : Near) → Rises k xs → Contains (dedup_from has_same_id k xs) m → k.id.0 ≤ m.id.0
above_first k [] m up w = grind (arith, common_steps, contains_cases, contains_none)
above_first k (x ∷ xs) m up w = elim (dedup_cases (has_same_id x k) k m (dedup_from has_same_id k xs) (dedup_from has_same_id x xs) w) [
  | inl a ↦ above_first k xs m (rises_lower k x xs up.0 up.1) a.1
  | inr c ↦ elim c.1 [
    | inl e ↦ subst (λ (z : Near). k.id.0 ≤ z.id.0) e (omega arith)
    | inr v ↦
        let first : k.id.0 ≤ x.id.0 = up.0 in
        let above : x.id.0 ≤ m.id.0 = above_first x xs m up.1 v in
        omega arith
  ]
]

below_cons : (x : Near) (xs : List Near) → ((m : Near) → Contains xs m → IsBelow x m) → AllPairs IsBelow xs → AllPairs IsBelow (x ∷ xs)
below_cons x xs below h zero zero d lt within = absurd (omega arith)
below_cons x xs below h zero (suc j) d lt within = below (get_or xs j d) (Contains-get_or xs j d (omega arith))
below_cons x xs below h (suc i) zero d lt within = absurd (omega arith)
below_cons x xs below h (suc i) (suc j) d lt within = h i j d (omega arith) (omega arith)

ordered_cond : (b : Bool) (k x : Near) (a c : List Near) → has_same_id x k ≡ b → k.id.0 ≤ x.id.0 → ((m : Near) → Contains c m → x.id.0 ≤ m.id.0) →
    AllPairs IsBelow a → AllPairs IsBelow c → AllPairs IsBelow (cond b a (k ∷ c))
ordered_cond true k x a c e le above h h' = h
ordered_cond false k x a c e le above h h' = below_cons k c (λ m w.
    let lt : k.id.0 < x.id.0 = unequal_ids x k e le in
    let low : x.id.0 ≤ m.id.0 = above m w in
    omega arith) h'

one_ordered : (k : Near) → AllPairs IsBelow (k ∷ [])
one_ordered k i j d lt within = absurd (omega arith)

ordered : (k : Near) (xs : List Near) → Rises k xs → AllPairs IsBelow (dedup_from has_same_id k xs)
ordered k [] up = one_ordered k
ordered k (x ∷ xs) up =
    ordered_cond (has_same_id x k) k x (dedup_from has_same_id k xs) (dedup_from has_same_id x xs) refl up.0
    (λ m w. above_first x xs m up.1 w) (ordered k xs (rises_lower k x xs up.0 up.1)) (ordered x xs up.1)

none_ordered : AllPairs IsBelow []
none_ordered i j d lt within = absurd (omega arith)

dedup_ordered : (sorted : List Near) → IsNonDecreasingBy (λ (n : Near). n.id.0) sorted → AllPairs IsBelow (dedup has_same_id sorted)
dedup_ordered [] up = none_ordered
dedup_ordered (k ∷ xs) up = ordered k xs (rises_from_sorted k xs up)

same_ids : (m n : Near) → has_same_id n m ≡ true → m.id ≡ n.id
same_ids m n e = ap (λ (k : ℕ). record { 0 = k }) (sym (eqb-true _ _ e))

pub are_willing : (g : NeighbourGraph) (found sorted willing : List Near) → HasDistinctIds g → found ≡ filter (λ n. not (nat_eq n.will 0)) g.near →
    IsPermutation found sorted → IsNonDecreasingBy (λ (n : Near). n.id.0) sorted → willing ≡ dedup has_same_id sorted → AreWilling g willing
are_willing g found sorted willing distinct is moved up kept =
    let known = λ (n : Near) (w : Contains sorted n).
    let p = passes (λ (x : Near). not (nat_eq x.will 0)) g.near n
    (subst (λ (l : List Near). Contains l n) is (Contains-permutation sorted found n (IsPermutation-sym found sorted moved) w)) in
    (let r : Contains g.near n × IsWilling n = (p.0, (Decides-not (nat_eq n.will 0) (Decides-eqb n.will 0)).0 p.1) in r) in
    let has = λ (n : Near) (near : Contains g.near n) (willing' : IsWilling n).
    Contains-permutation found sorted n moved (subst (λ (l : List Near). Contains l n) (sym is)
    (stays (λ (x : Near). not (nat_eq x.will 0)) g.near n near ((Decides-not (nat_eq n.will 0) (Decides-eqb n.will 0)).1 willing'))) in
    record {
      each = λ n. (
        λ w. known n (kept_within has_same_id sorted n (subst (λ (l : List Near). Contains l n) kept w)),
        λ h.
            let r = joined has_same_id sorted n (has n h.0 h.1) in
            let m = known r.0 (kept_within has_same_id sorted r.0 r.1) in
            subst (λ (l : List Near). Contains l n) (sym kept)
            (elim r.2 [
              | inl e ↦ subst (Contains (dedup has_same_id sorted)) e r.1
              | inr e ↦ subst (Contains (dedup has_same_id sorted)) (distinct r.0 n m.0 h.0 (same_ids r.0 n e)) r.1
            ]),
      );
      order = subst (λ (l : List Near). AllPairs IsBelow l) (sym kept) (dedup_ordered sorted up);
    }

-- Places

not_below_itself : (m n : Near) → IsBelow m n → m.id ≡ n.id → ⊥
not_below_itself m n lt e = let f : m.id.0 ≡ n.id.0 = ap (λ (a : Addr4). a.0) e in omega arith

pairs_at : (willing : List Near) (i j : ℕ) (m n : Near) → AllPairs IsBelow willing → IsAt willing i m → IsAt willing j n → i < j → IsBelow m n
pairs_at willing i j m n order a b lt =
    subst (λ (x : Near). IsBelow x n) a.1
    (subst (λ (x : Near). IsBelow (get_or willing i m) x) (get_or_default willing j m n b.0 ∙ b.1) (order i j m lt b.0))

-- an id stands at one place
pub one_place : (willing : List Near) (i j : ℕ) (m n : Near) → AllPairs IsBelow willing → IsAt willing i m → IsAt willing j n → m.id ≡ n.id → i ≡ j
one_place willing i j m n order a b e = grind (arith, common_steps, not_below_itself, pairs_at)

pub one_near : (willing : List Near) (i j : ℕ) (m n : Near) → AllPairs IsBelow willing → IsAt willing i m → IsAt willing j n → m.id ≡ n.id → m ≡ n
one_near willing i j m n order a b e = grind (arith, common_steps, one_place, get_or_default, get_or)

-- the later neighbours stand in order too
pub later_order : (n : Near) (ns : List Near) → AllPairs IsBelow (n ∷ ns) → AllPairs IsBelow ns
later_order n ns h i j d lt within = h (suc i) (suc j) d (omega arith) (omega arith)
