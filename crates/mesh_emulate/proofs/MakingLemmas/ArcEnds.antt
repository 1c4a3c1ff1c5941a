-- The arcs of pairs of which none stands twice.
use Rattle.mesh_emulate.proofs.Common.{common_steps, ◌≡◌, ℕ, ◌+◌, ◌*◌, ◌<◌, ◌≤◌, true, false, not, List, [], ◌∷◌, map, length, refl, sym, ap, ◌∙◌, arith, slice_index, AllByRecursion as Each, list_all, list_any, and_parts, not-true, cases_Bool, eq-eqb, ne_eqb, true≢false, RadioArc, Ends, AreArcs, are_distinct, ends_eq, joins_routers, ends_of, RouterPair, same_pair, IsMadeArc, AreMadeArcs, Kind, each_weaker}
use Rattle.mesh_emulate.proofs.MakingLemmas.Apart.{AreApart, none_of}

-- from a router to another
abbrev way : ℕ → ℕ → Ends
way from to = record { from = from; from_iface = 0; to = to; to_iface = 0 }

abbrev ways : List RouterPair → List Ends
ways [] = []
ways (p ∷ pairs) = way p.low p.high ∷ way p.high p.low ∷ ways pairs

way_of : (k : Kind) (n seed number from to : ℕ) (arc : RadioArc) → IsMadeArc k n seed number from to arc → ends_of arc ≡ way from to
way_of k n seed number from to arc is = rw (is.leaves, is.leaves_iface, is.reaches, is.reaches_iface) refl

ways_of : (k : Kind) (n seed number : ℕ) (pairs : List RouterPair) (arcs : List RadioArc) → AreMadeArcs k n seed number pairs arcs →
    map ends_of arcs ≡ ways pairs
ways_of k n seed number [] arcs all = ap (map ends_of) all
ways_of k n seed number (p ∷ pairs) [] all = absurd all
ways_of k n seed number (p ∷ pairs) (a ∷ []) all = absurd all
ways_of k n seed number (p ∷ pairs) (a ∷ b ∷ arcs) all =
    rw (way_of k n seed number p.low p.high a all.0, way_of k n seed (number + 1) p.high p.low b all.1, ways_of k n seed (number + 2) pairs arcs all.2) refl

-- Of no way twice

abbrev InOrder : RouterPair → Type 0
InOrder p = p.low < p.high

ways_differ : (a b c d : ℕ) → (a ≡ c → b ≡ d → ⊥) → ends_eq (way a b) (way c d) ≡ false
ways_differ a b c d differ = grind (arith, common_steps, cases_Bool)

-- none of the ways of pairs is a way of another pair
no_way : (p : RouterPair) (pairs : List RouterPair) → InOrder p → Each InOrder pairs → Each (λ q. same_pair p q ≡ false) pairs →
    (list_any (ends_eq (way p.low p.high)) (ways pairs) ≡ false) × (list_any (ends_eq (way p.high p.low)) (ways pairs) ≡ false)
no_way p [] order orders others = (refl, refl)
no_way p (q ∷ pairs) order orders others =
    let rest = no_way p pairs order orders.1 others.1 in
    let here = orders.0 in
    let apart : p.low ≡ q.low → p.high ≡ q.high → ⊥ = λ e f. not_same p q e f others.0 in (
      rw (ways_differ p.low p.high q.low q.high apart, ways_differ p.low p.high q.high q.low (λ e f. omega (arith, e, f, order, here)), rest.0) refl,
      rw (ways_differ p.high p.low q.low q.high (λ e f. omega (arith, e, f, order, here)), ways_differ p.high p.low q.high q.low (λ e f. apart f e), rest.1) refl,
    )
  where
    not_same : (p q : RouterPair) → p.low ≡ q.low → p.high ≡ q.high → same_pair p q ≡ false → ⊥
    not_same p q e f other = let both : same_pair p q ≡ true = rw (eq-eqb p.low q.low e, eq-eqb p.high q.high f) refl in true≢false (sym both ∙ other)

distinct_ways : (pairs : List RouterPair) → Each InOrder pairs → are_distinct same_pair pairs ≡ true → are_distinct ends_eq (ways pairs) ≡ true
distinct_ways [] orders d = refl
distinct_ways (p ∷ pairs) orders d =
    let parts = and_parts (not (list_any (same_pair p) pairs)) (are_distinct same_pair pairs) d in
    let others = none_of p pairs (not-true (list_any (same_pair p) pairs) parts.0) in
    let none = no_way p pairs orders.0 orders.1 others in
    let order = orders.0 in
    let turned : ends_eq (way p.low p.high) (way p.high p.low) ≡ false = ways_differ p.low p.high p.high p.low (λ e f. omega (arith, e, order)) in
    rw (turned, none.0, none.1, distinct_ways pairs orders.1 parts.1) refl

-- Between routers

joining : (counts : List ℕ) (n : ℕ) (pairs : List RouterPair) → ((x : ℕ) → x < n → slice_index counts x ≡ 1) →
    Each (λ p. (p.low < p.high) × (p.high < n)) pairs →
    list_all (joins_routers counts) (ways pairs) ≡ true
joining counts n [] one within = refl
joining counts n (p ∷ pairs) one within =
    let order = within.0.0 in
    let below = within.0.1 in
    let low : slice_index counts p.low ≡ 1 = one p.low (omega (arith, order, below)) in
    let high : slice_index counts p.high ≡ 1 = one p.high below in
    rw (low, high, ne_eqb p.low p.high (λ e. omega (arith, e, order)), ne_eqb p.high p.low (λ e. omega (arith, e, order)), joining counts n pairs one within.1) refl

length-ways : (pairs : List RouterPair) → length (ways pairs) ≡ 2 * length pairs
length-ways [] = refl
length-ways (p ∷ pairs) = omega (arith, length-ways pairs)

module _ (k : Kind) (n seed : ℕ) (pairs : List RouterPair) (arcs : List RadioArc) (few : n ≤ 64) (apart : AreApart n (2 * n) pairs) (made : AreMadeArcs k n seed 0 pairs arcs) where
  pub arcs_few : length arcs ≤ 4096
  arcs_few = grind (arith, common_steps, ways_of, length-ways)

  pub arcs_distinct : are_distinct ends_eq (map ends_of arcs) ≡ true
  arcs_distinct = ap (are_distinct ends_eq) (ways_of k n seed 0 pairs arcs made) ∙ distinct_ways pairs (each_weaker (λ (p : RouterPair). (p.low < p.high) × (p.high < n)) InOrder (λ p is. is.0) pairs apart.within) apart.distinct

  pub arcs_sound : (counts : List ℕ) → ((x : ℕ) → x < n → slice_index counts x ≡ 1) → AreArcs counts (map ends_of arcs)
  arcs_sound counts one = grind (arith, common_steps, arcs_few, ways_of, joining, arcs_distinct)
