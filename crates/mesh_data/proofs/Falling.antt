-- A chain of hops on which what is left of the cost falls never comes to a router twice.
use Rattle.mesh_data.proofs.Common.{◌≡◌, ℕ, ◌+◌, ◌<◌, ◌≤◌, ◌⊎◌, inl, inr, refl, sym, subst, arith, List, [], ◌∷◌, length, Contains, Bool, true, false, eqb, AllByRecursion, list_any, sum_by, eqb-true, cases_Bool, or_cases, or_parts as neither, sum_by-append, Hop, AreChained, contains_tail as in_tail}
use Rattle.std.specs.List.{IsDistinct}
use Rattle.std.proofs.lemmas.Map.Steps.{length-le_from_distinct_below}

abbrev pub total : List Hop → ℕ
total hops = sum_by (λ h. h.metric) hops

pub total_more : (h : Hop) (hs : List Hop) → total (h ∷ hs) ≡ h.metric + total hs
total_more h hs = let e : total (h ∷ hs) ≡ (0 + h.metric) + total hs = sum_by-append (λ (x : Hop). x.metric) (h ∷ []) hs in omega arith

-- the routers that the hops from x come to
abbrev visited : ℕ → List Hop → List ℕ
visited x [] = x ∷ []
visited x (h ∷ hs) = x ∷ visited h.to hs

count : (x : ℕ) (hops : List Hop) → length (visited x hops) ≡ length hops + 1
count x [] = refl
count x (h ∷ hs) = let r = count h.to hs in omega arith

none_in : {A : Type 0} (p : A → Bool) (xs : List A) → list_any p xs ≡ false → AllByRecursion (λ x. p x ≡ false) xs
none_in p [] e = tt
none_in p (x ∷ xs) e = let parts = neither (p x) (list_any p xs) e in (parts.0, none_in p xs parts.1)

-- at router x so much is left, or the packet is delivered at x at that cost
module _ (Left Done : ℕ → ℕ → Type 0) (Is : Hop → Type 0) (One : Type 0) (bound : ℕ) where
  -- what comes after a hop from a router where c is left
  pub record Step (hop : Hop) (c : ℕ) : Type 0 where
    pub above : 1 ≤ hop.metric
    pub next : ((rest : ℕ) × Left hop.to rest × (c ≡ hop.metric + rest)) ⊎ ((k : ℕ) × Done hop.to k × (c ≤ hop.metric + k) × (One → c ≡ hop.metric + k))

  pub record Falls : Type 0 where
    pub one : (x c d : ℕ) → Left x c → Left x d → c ≡ d
    pub below : (x c : ℕ) → Left x c → x < bound
    pub step : (hop : Hop) (c : ℕ) → Is hop → Left hop.from c → Step hop c
    pub stuck : (hop : Hop) (k : ℕ) → Is hop → Done hop.from k → ⊥

  -- something is left at the end: no router was come to twice
  pub record Wandered (x c : ℕ) (hops : List Hop) (last : ℕ) : Type 0 where
    pub rest : ℕ
    pub left : Left last rest
    pub lower : (v : ℕ) → list_any (eqb v) (visited x hops) ≡ true → (d : ℕ) × Left v d × (d ≤ c)
    pub distinct : IsDistinct eqb (visited x hops)

  pub record Came (c : ℕ) (hops : List Hop) (last : ℕ) : Type 0 where
    pub k : ℕ
    pub done : Done last k
    pub no_less : c ≤ total hops + k
    pub exact : One → c ≡ total hops + k

  module _ (F : Falls) where
    nothing_twice : (x c d : ℕ) (hops : List Hop) (y : ℕ) → Left x c → d < c →
        ((v : ℕ) → list_any (eqb v) (visited y hops) ≡ true → (e : ℕ) × Left v e × (e ≤ d)) → list_any (eqb x) (visited y hops) ≡ false
    nothing_twice x c d hops y left less lower = elim (cases_Bool (list_any (eqb x) (visited y hops))) [
      | inl t ↦ let (e, again, low) = lower x t in absurd (omega (arith, F.one x c e left again))
      | inr f ↦ f
    ]

    pub falls : (hops : List Hop) (x last c : ℕ) → AreChained x hops last → ((hop : Hop) → Contains hops hop → Is hop) → Left x c →
        Wandered x c hops last ⊎ Came c hops last
    unfolding IsDistinct
    falls [] x last c chain each left = inl (record {
      rest = c;
      left = subst (λ (v : ℕ). Left v c) chain left;
      lower = λ v has. elim (or_cases (eqb v x) false has) [
        | inl t ↦ (c, subst (λ (w : ℕ). Left w c) (sym (eqb-true v x t)) left, omega arith)
        | inr f ↦ absurd cc
      ];
      distinct = (tt, tt);
    })
    falls (h ∷ hs) x last c chain each left =
        let is : Is h = each h (0, omega arith, refl) in
        let at : Left h.from c = subst (λ (v : ℕ). Left v c) (sym chain.0) left in
        let st = F.step h c is at in
        let above : 1 ≤ h.metric = st.above in
        elim st.next [
          | inl on ↦
              let (rest, there, sum) = on in
              elim (falls hs h.to last rest chain.1 (λ hop has. each hop (in_tail h hs hop has)) there) [
                | inl w ↦ inl (record {
                  rest = w.rest;
                  left = w.left;
                  lower = λ v has. elim (or_cases (eqb v x) (list_any (eqb v) (visited h.to hs)) has) [
                    | inl t ↦ (c, subst (λ (z : ℕ). Left z c) (sym (eqb-true v x t)) left, omega arith)
                    | inr more ↦ let (d, l, low) = w.lower v more in (d, l, omega arith)
                  ];
                  distinct = (none_in (eqb x) (visited h.to hs) (nothing_twice x c rest hs h.to left (omega arith) w.lower), w.distinct);
                })
                | inr came ↦ inr (record { k = came.k; done = came.done; no_less = omega (arith, came.no_less, total_more h hs); exact = λ o. omega (arith, came.exact o, total_more h hs) })
              ]
          | inr done ↦
              let (k, there, low, exact) = done in
              inr (ends hs chain.1 (λ hop has. each hop (in_tail h hs hop has)) k there low exact)
        ]
      where
        ends : (rest : List Hop) → AreChained h.to rest last → ((hop : Hop) → Contains rest hop → Is hop) → (k : ℕ) → Done h.to k → c ≤ h.metric + k → (One → c ≡ h.metric + k) →
            Came c (h ∷ rest) last
        ends [] at_last all k there low exact = record { k = k; done = subst (λ (v : ℕ). Done v k) at_last there; no_less = omega arith; exact = λ o. omega (arith, exact o) }
        ends (g ∷ gs) more all k there low exact = absurd (F.stuck g k (all g (0, omega arith, refl)) (subst (λ (v : ℕ). Done v k) (sym more.0) there))

    -- so there were fewer hops than routers
    pub few : (x c : ℕ) (hops : List Hop) (last : ℕ) → Wandered x c hops last → length hops < bound
    few x c hops last w =
        let l : length (visited x hops) ≤ bound = length-le_from_distinct_below (visited x hops) bound w.distinct (λ q has. let (d, left, low) = w.lower q has in F.below q d left) in
        omega (arith, count x hops)
