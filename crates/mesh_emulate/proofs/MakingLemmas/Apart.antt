-- Pairs of routers of which none stands twice.
use Rattle.mesh_emulate.proofs.Common.{common_steps, ◌≡◌, ℕ, zero, suc, ◌+◌, ◌-◌, ◌*◌, ◌%◌, ◌<◌, ◌≤◌, ◌≢◌, Bool, true, false, not, List, [], ◌∷◌, ◌++◌, map, length, inl, inr, refl, sym, ◌∙◌, subst, arith, append_assoc, nat_eq, nat_lt, ◌&&◌, AllByRecursion as Each, flat_map, list_any, range_with_len, and_parts, and_left, and_right, cases_Bool, eqb-false, eqb-true, ne_eqb, ltb-true, ltb-false, not-true, or_parts, map-range_with_len_more, list_any-append, are_distinct, RouterPair, pair, pair_if, grid_pairs_of, ring_pairs, tree_pairs, same_pair, joined_with, more_pairs, word, ArePairs, Kind, each_both, each_weaker}
use Rattle.std.proofs.lemmas.Nat.{mod_below}
use Rattle.mesh_emulate.proofs.MakingLemmas.Growing.{flat_more}
use Rattle.mesh_emulate.proofs.MakingLemmas.Rows.{two_or_more}
use Rattle.mesh_emulate.specs.declared.making.kind.Kind.TheVariants as kind

-- pairs of n routers, at most so many, none of which stands twice
pub record AreApart (n most : ℕ) (pairs : List RouterPair) : Type 0 where
  pub within : Each (λ p. (p.low < p.high) × (p.high < n)) pairs
  pub distinct : are_distinct same_pair pairs ≡ true
  pub few : length pairs ≤ most

-- One pair more

each_if : (P : RouterPair → Type 0) (pairs : List RouterPair) (p : RouterPair) (t : Bool) → Each P pairs → P p → Each P (pairs ++ pair_if t p)
each_if P pairs p t all one = grind (arith, common_steps, each_both)

-- none of the pairs is this one
abbrev Lack : List RouterPair → RouterPair → Type 0
Lack pairs p = Each (λ q. same_pair q p ≡ false) pairs

distinct_more : (pairs : List RouterPair) (p : RouterPair) → are_distinct same_pair pairs ≡ true → Lack pairs p →
    are_distinct same_pair (pairs ++ p ∷ []) ≡ true
distinct_more [] p d lack = refl
distinct_more (q ∷ pairs) p d lack =
    let parts = and_parts (not (list_any (same_pair q) pairs)) (are_distinct same_pair pairs) d in
    let none : list_any (same_pair q) pairs ≡ false = not-true (list_any (same_pair q) pairs) parts.0 in
    rw (list_any-append (same_pair q) pairs (p ∷ []), none, lack.0, distinct_more pairs p parts.1 lack.1) refl

apart_more : (n most : ℕ) (pairs : List RouterPair) (p : RouterPair) → AreApart n most pairs → p.low < p.high → p.high < n → Lack pairs p →
    AreApart n (most + 1) (pairs ++ p ∷ [])
apart_more n most pairs p a order below lack = grind (arith, common_steps, each_both, distinct_more)

apart_if : (n most : ℕ) (pairs : List RouterPair) (p : RouterPair) (t : Bool) → AreApart n most pairs →
    (t ≡ true → (p.low < p.high) × (p.high < n) × Lack pairs p) → AreApart n (most + 1) (pairs ++ pair_if t p)
apart_if n most pairs p true a so = let is = so refl in apart_more n most pairs p a is.0 is.1 is.2
apart_if n most pairs p false a so = grind (arith, common_steps)

-- In rows

lower_lack : (pairs : List RouterPair) (p : RouterPair) → Each (λ q. q.low < p.low) pairs → Lack pairs p
lower_lack pairs p lower = grind (arith, common_steps, each_weaker)

record IsRowsFront (n m : ℕ) (pairs : List RouterPair) : Type 0 where
  apart : AreApart n (2 * m) pairs
  lower : Each (λ q. q.low < m) pairs

rows_more : (c n m : ℕ) (pairs : List RouterPair) → 2 ≤ c → IsRowsFront n m pairs → IsRowsFront n (m + 1) (pairs ++ grid_pairs_of c n m)
rows_more c n m pairs two front =
    let t = nat_lt (m + 1) n && not (nat_eq ((m + 1) % c) 0) in
    let u = nat_lt (m + c) n in
    let p = pair m (m + 1) in
    let q = pair m (m + c) in
    let first : AreApart n (2 * m + 1) (pairs ++ pair_if t p) = apart_if n (2 * m) pairs p t front.apart
    (λ is. (omega arith, ltb-true (m + 1) n (and_parts (nat_lt (m + 1) n) (not (nat_eq ((m + 1) % c) 0)) is).0, lower_lack pairs p front.lower)) in
    let other : same_pair p q ≡ false = and_right (nat_eq m m) (nat_eq (m + 1) (m + c)) (ne_eqb (m + 1) (m + c) (λ e. omega (arith, e, two))) in
    let both : AreApart n (2 * m + 1 + 1) ((pairs ++ pair_if t p) ++ pair_if u q) = apart_if n (2 * m + 1) (pairs ++ pair_if t p) q u first
    (λ is. (omega (arith, two), ltb-true (m + c) n is, each_if (λ (x : RouterPair). same_pair x q ≡ false) pairs p t (lower_lack pairs q front.lower) other)) in
    let Below : RouterPair → Type 0 = λ x. x.low < m + 1 in
    let here : m < m + 1 = omega arith in
    let lower : Each Below pairs = each_weaker (λ (x : RouterPair). x.low < m) Below (λ x less. omega (arith, less)) pairs front.lower in
    let joined = append_assoc pairs (pair_if t p) (pair_if u q) in
    record {
      apart = subst (AreApart n (2 * (m + 1))) joined
          (record { within = both.within; distinct = both.distinct; few = omega (arith, both.few) });
      lower = subst (Each Below) joined (each_if Below (pairs ++ pair_if t p) q u (each_if Below pairs p t lower here) here);
    }

rows_front : (c n m : ℕ) → 2 ≤ c → IsRowsFront n m (flat_map (grid_pairs_of c n) (range_with_len 0 m))
rows_front c n zero two = record { apart = record { within = tt; distinct = refl; few = omega arith }; lower = tt }
rows_front c n (suc m) two =
    let more : m + 1 ≡ suc m = omega arith in
    let grown : IsRowsFront n (m + 1) (flat_map (grid_pairs_of c n) (range_with_len 0 (m + 1))) =
    subst (IsRowsFront n (m + 1)) (sym (flat_more (grid_pairs_of c n) m)) (rows_more c n m (flat_map (grid_pairs_of c n) (range_with_len 0 m)) two (rows_front c n m two)) in
    subst (λ (k : ℕ). IsRowsFront n k (flat_map (grid_pairs_of c n) (range_with_len 0 k))) more grown

-- In a ring

record IsRingFront (n m : ℕ) (pairs : List RouterPair) : Type 0 where
  apart : AreApart n m pairs
  lower : Each (λ q. q.low < m) pairs
  next : Each (λ q. q.high ≡ q.low + 1) pairs

abbrev next_pair : ℕ → RouterPair
next_pair i = pair i (i + 1)

ring_front : (n m : ℕ) → m < n → IsRingFront n m (map next_pair (range_with_len 0 m))
ring_front n zero within = record { apart = record { within = tt; distinct = refl; few = omega arith }; lower = tt; next = tt }
ring_front n (suc m) within =
    let pairs = map next_pair (range_with_len 0 m) in
    let front : IsRingFront n m pairs = ring_front n m (omega (arith, within)) in
    let more : m + 1 ≡ suc m = omega arith in
    let p = next_pair m in
    let Below : RouterPair → Type 0 = λ x. x.low < m + 1 in
    let Next : RouterPair → Type 0 = λ x. x.high ≡ x.low + 1 in
    let here : m < m + 1 = omega arith in
    let grown : IsRingFront n (m + 1) (pairs ++ p ∷ []) = record {
      apart = apart_more n m pairs p front.apart here (omega (arith, within)) (lower_lack pairs p front.lower);
      lower = each_both Below pairs (p ∷ []) (each_weaker (λ (x : RouterPair). x.low < m) Below (λ x less. omega (arith, less)) pairs front.lower) (here, tt);
      next = each_both Next pairs (p ∷ []) front.next (refl, tt);
    } in
    let all : IsRingFront n (m + 1) (map next_pair (range_with_len 0 (m + 1))) =
    subst (IsRingFront n (m + 1)) (sym (map-range_with_len_more next_pair 0 m m (omega arith))) grown in
    subst (λ (k : ℕ). IsRingFront n k (map next_pair (range_with_len 0 k))) more all

ring_apart : (n : ℕ) → 2 ≤ n → AreApart n (2 * n) (ring_pairs n)
ring_apart n two =
    let pairs = map next_pair (range_with_len 0 (n - 1)) in
    let front : IsRingFront n (n - 1) pairs = ring_front n (n - 1) (omega (arith, two)) in
    let last = pair 0 (n - 1) in
    let all : AreApart n (n - 1 + 1) (pairs ++ pair_if (nat_lt 2 n) last) = apart_if n (n - 1) pairs last (nat_lt 2 n) front.apart
    (λ is.
    let three : 2 < n = ltb-true 2 n is in (
      omega (arith, three),
      omega (arith, three),
      each_weaker (λ (q : RouterPair). q.high ≡ q.low + 1) (λ (q : RouterPair). same_pair q last ≡ false) (both_differ (n - 1) (omega (arith, three))) pairs front.next,
    )) in
    record { within = all.within; distinct = all.distinct; few = omega (arith, all.few, two) }
  where
    both_differ : (m : ℕ) → 2 ≤ m → (q : RouterPair) → q.high ≡ q.low + 1 → same_pair q (pair 0 m) ≡ false
    both_differ m far q next = elim (cases_Bool (nat_eq q.low 0)) [
      | inl first ↦ and_right (nat_eq q.low 0) (nat_eq q.high m) (ne_eqb q.high m (λ e. omega (arith, e, next, far, eqb-true q.low 0 first)))
      | inr other ↦ and_left (nat_eq q.low 0) (nat_eq q.high m) other
    ]

-- By draws

record IsTreeFront (n m : ℕ) (pairs : List RouterPair) : Type 0 where
  apart : AreApart n m pairs
  lower : Each (λ q. q.high < m + 1) pairs

tree_front : (seed n m : ℕ) → m < n → IsTreeFront n m (map (λ i. pair (word seed i % (i + 1)) (i + 1)) (range_with_len 0 m))
tree_front seed n zero within = record { apart = record { within = tt; distinct = refl; few = omega arith }; lower = tt }
tree_front seed n (suc m) within =
    let f : ℕ → RouterPair = λ i. pair (word seed i % (i + 1)) (i + 1) in
    let pairs = map f (range_with_len 0 m) in
    let front : IsTreeFront n m pairs = tree_front seed n m (omega (arith, within)) in
    let more : m + 1 ≡ suc m = omega arith in
    let p = f m in
    let Below : RouterPair → Type 0 = λ x. x.high < (m + 1) + 1 in
    let here : m + 1 < (m + 1) + 1 = omega arith in
    let order : p.low < p.high = mod_below (word seed m) (m + 1) (omega arith) in
    let lack : Lack pairs p = each_weaker (λ (q : RouterPair). q.high < m + 1) (λ (q : RouterPair). same_pair q p ≡ false)
    (λ q less. and_right (nat_eq q.low p.low) (nat_eq q.high p.high) (ne_eqb q.high p.high (λ e. omega (arith, less, e)))) pairs front.lower in
    let grown : IsTreeFront n (m + 1) (pairs ++ p ∷ []) = record {
      apart = apart_more n m pairs p front.apart order (omega (arith, within)) lack;
      lower = each_both Below pairs (p ∷ []) (each_weaker (λ (x : RouterPair). x.high < m + 1) Below (λ x less. omega (arith, less)) pairs front.lower) (here, tt);
    } in
    let all : IsTreeFront n (m + 1) (map f (range_with_len 0 (m + 1))) =
    subst (IsTreeFront n (m + 1)) (sym (map-range_with_len_more f 0 m m (omega arith))) grown in
    subst (λ (k : ℕ). IsTreeFront n k (map f (range_with_len 0 k))) more all

-- the test for a pair looks at both alike
same_pair-sym : (p q : RouterPair) → same_pair p q ≡ same_pair q p
same_pair-sym p q = grind (arith, common_steps, cases_Bool)

pub none_of : (p : RouterPair) (pairs : List RouterPair) → list_any (same_pair p) pairs ≡ false → Each (λ q. same_pair p q ≡ false) pairs
none_of p [] none = tt
none_of p (q ∷ pairs) none = let parts = or_parts (same_pair p q) (list_any (same_pair p) pairs) none in (parts.0, none_of p pairs parts.1)

none_lack : (p : RouterPair) (pairs : List RouterPair) → list_any (same_pair p) pairs ≡ false → Lack pairs p
none_lack p pairs none =
    each_weaker (λ (q : RouterPair). same_pair p q ≡ false) (λ (q : RouterPair). same_pair q p ≡ false) (λ q is. same_pair-sym q p ∙ is) pairs (none_of p pairs none)

joined_apart : (n most : ℕ) (pairs : List RouterPair) (a b : ℕ) → a < n → b < n → AreApart n most pairs →
    AreApart n (most + 1) (joined_with pairs a b)
joined_apart n most pairs a b c d apart = elim (cases_Bool (nat_lt a b)) [
  | inl less ↦ rw less (by (pair a b) (λ differ. ltb-true a b less) d)
  | inr more ↦ rw more (by (pair b a) (λ differ. let ge = ltb-false a b more in let ne : a ≢ b = differ in omega (arith, ge, ne)) c)
]
  where
    by : (p : RouterPair) → (a ≢ b → p.low < p.high) → p.high < n →
        AreApart n (most + 1) (pairs ++ pair_if (not (nat_eq a b) && not (list_any (same_pair p) pairs)) p)
    by p order below =
        apart_if n most pairs p (not (nat_eq a b) && not (list_any (same_pair p) pairs)) apart
        (λ is.
        let parts = and_parts (not (nat_eq a b)) (not (list_any (same_pair p) pairs)) is in (
          order (eqb-false a b (not-true (nat_eq a b) parts.0)),
          below,
          none_lack p pairs (not-true (list_any (same_pair p) pairs) parts.1),
        ))

more_apart : (seed n k times most : ℕ) (pairs : List RouterPair) → 2 ≤ n → AreApart n most pairs →
    AreApart n (most + times) (more_pairs seed n k times pairs)
more_apart seed n k zero most pairs two apart = record { within = apart.within; distinct = apart.distinct; few = omega (arith, apart.few) }
more_apart seed n k (suc times) most pairs two apart =
    let some : 0 < n = omega (arith, two) in
    let a = word seed k % n in
    let b = word seed (k + 1) % n in
    let next = joined_apart n most pairs a b (mod_below (word seed k) n some) (mod_below (word seed (k + 1)) n some) apart in
    let all = more_apart seed n (k + 2) times (most + 1) (joined_with pairs a b) two next in
    record { within = all.within; distinct = all.distinct; few = omega (arith, all.few) }

-- All kinds

pub pairs_apart : (k : Kind) (n seed : ℕ) (pairs : List RouterPair) → 2 ≤ n → ArePairs k n seed pairs → AreApart n (2 * n) pairs
pairs_apart kind.Grid n seed pairs two (c, row, is) = grind (arith, common_steps, rows_front, two_or_more)
pairs_apart kind.Ring n seed pairs two is = subst (AreApart n (2 * n)) (sym is) (ring_apart n two)
pairs_apart kind.Random n seed pairs two is =
    let tree = (tree_front seed n (n - 1) (omega (arith, two))).apart in
    let all = more_apart seed n (n - 1) n (n - 1) (tree_pairs seed n) two tree in
    subst (AreApart n (2 * n)) (sym is) (record { within = all.within; distinct = all.distinct; few = omega (arith, all.few) })
