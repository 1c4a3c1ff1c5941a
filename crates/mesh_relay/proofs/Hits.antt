-- One pass over the ways in order finds an address that is not reached.
use Rattle.mesh_relay.proofs.Common.{◌≡◌, ℕ, ◌≤◌, ◌≢◌, ◌⊎◌, Bool, true, false, ◌&&◌, ◌||◌, cond, List, [], ◌∷◌, refl, sym, ◌∙◌, ap, subst, inl, inr, arith, Decides, Contains, common_steps, false≢true, true≢false, and_cases, and_parts, or_cases, or_parts, Addr4, addr_eq, Way, RisesFrom, are_all_reached_on, are_all_reached, Decides-addr, contains_head, contains_none, contains_cases, contains_tail}

-- some way to y passes the test
abbrev pub Hit : (Way → Bool) → Addr4 → List Way → Type 0
Hit test y ws = (v : Way) × Contains ws v × (v.addr ≡ y) × (test v ≡ true)

-- none does
abbrev pub Missed : (Way → Bool) → Addr4 → List Way → Type 0
Missed test y ws = (v : Way) → Contains ws v → v.addr ≡ y → test v ≡ false

hit_more : (test : Way → Bool) (y : Addr4) (w : Way) (ws : List Way) → Hit test y ws → Hit test y (w ∷ ws)
hit_more test y w ws h = (h.0, contains_tail w ws h.0 h.1, h.2, h.3)

-- where each is reached

Reached : (Way → Bool) → Addr4 → Bool → List Way → Type 0
Reached test y reached ws = ((reached ≡ true) ⊎ Hit test y ws) × ((w : Way) → Contains ws w → (w.addr ≡ y) ⊎ Hit test w.addr ws)

reached_true_cons : (test : Way → Bool) (y : Addr4) (reached : Bool) (w : Way) (ws : List Way) (b : Bool) → Decides b (w.addr ≡ y) →
    cond b (are_all_reached_on test y (reached || test w) ws) (reached && are_all_reached_on test w.addr (test w) ws) ≡ true →
    (are_all_reached_on test y (reached || test w) ws ≡ true → Reached test y (reached || test w) ws) →
    (are_all_reached_on test w.addr (test w) ws ≡ true → Reached test w.addr (test w) ws) → Reached test y reached (w ∷ ws)
unfolding Reached
reached_true_cons test y reached w ws true d e goes_on begins =
    let h = goes_on e in (
      elim h.0 [
        | inl o ↦ elim (or_cases reached (test w) o) [ inl r ↦ inl r | inr t ↦ inr (w, contains_head w ws, d.0 refl, t) ]
        | inr hit ↦ inr (hit_more test y w ws hit)
      ],
      λ v within. elim (contains_cases w ws v within) [
        | inl same' ↦ inl (sym (ap (λ (f : Way). f.addr) same') ∙ d.0 refl)
        | inr later ↦ elim (h.1 v later) [ inl at ↦ inl at | inr hit ↦ inr (hit_more test v.addr w ws hit) ]
      ],
    )
reached_true_cons test y reached w ws false d e goes_on begins =
    let both = and_parts reached (are_all_reached_on test w.addr (test w) ws) e in
    let h = begins both.1 in
    let here : Hit test w.addr (w ∷ ws) = elim h.0 [ inl t ↦ (w, contains_head w ws, refl, t) | inr hit ↦ hit_more test w.addr w ws hit ] in (
      inl both.0,
      λ v within. elim (contains_cases w ws v within) [
        | inl same' ↦ inr (subst (λ (f : Way). Hit test f.addr (w ∷ ws)) same' here)
        | inr later ↦ elim (h.1 v later) [ inl at ↦ inr (subst (λ (a : Addr4). Hit test a (w ∷ ws)) (sym at) here) | inr hit ↦ inr (hit_more test v.addr w ws hit) ]
      ],
    )

reached_true : (test : Way → Bool) (y : Addr4) (reached : Bool) (ws : List Way) → are_all_reached_on test y reached ws ≡ true → Reached test y reached ws
unfolding Reached
reached_true test y reached [] e = (inl e, λ w within. absurd (contains_none w within))
reached_true test y reached (w ∷ ws) e =
    reached_true_cons test y reached w ws (addr_eq w.addr y) (Decides-addr w.addr y) e
    (reached_true test y (reached || test w) ws) (reached_true test w.addr (test w) ws)

pub all_hit : (test : Way → Bool) (ways : List Way) → are_all_reached test ways ≡ true → (w : Way) → Contains ways w → Hit test w.addr ways
unfolding Reached
all_hit test [] e w within = absurd (contains_none w within)
all_hit test (v ∷ ways) e w within =
    let h = reached_true test v.addr (test v) ways e in
    let here : Hit test v.addr (v ∷ ways) = elim h.0 [ inl t ↦ (v, contains_head v ways, refl, t) | inr hit ↦ hit_more test v.addr v ways hit ] in
    elim (contains_cases v ways w within) [
      | inl same' ↦ subst (λ (f : Way). Hit test f.addr (v ∷ ways)) same' here
      | inr later ↦ elim (h.1 w later) [ inl at ↦ subst (λ (a : Addr4). Hit test a (v ∷ ways)) (sym at) here | inr hit ↦ hit_more test w.addr v ways hit ]
    ]

-- where one is not

rises_above : (low : ℕ) (ws : List Way) → RisesFrom low ws → (v : Way) → Contains ws v → low ≤ v.addr.0
rises_above low [] up v within = absurd (contains_none v within)
rises_above low (w ∷ ws) up v within = elim (contains_cases w ws v within) [
  | inl same' ↦ subst (λ (f : Way). low ≤ f.addr.0) same' up.0
  | inr later ↦ let first : low ≤ w.addr.0 = up.0 in let above : w.addr.0 ≤ v.addr.0 = rises_above w.addr.0 ws up.1 v later in omega arith
]

-- y is missed, or a later address is
Misses : (Way → Bool) → Addr4 → Bool → List Way → Type 0
Misses test y reached ws = ((reached ≡ false) × Missed test y ws) ⊎ ((w : Way) × Contains ws w × (w.addr ≢ y) × Missed test w.addr ws)

missed_first : (test : Way → Bool) (y : Addr4) (w : Way) (ws : List Way) → test w ≡ false → Missed test y ws → Missed test y (w ∷ ws)
missed_first test y w ws t h v within at = grind (arith, common_steps, contains_cases)

missed_other : (test : Way → Bool) (y : Addr4) (w : Way) (ws : List Way) → w.addr ≢ y → Missed test y ws → Missed test y (w ∷ ws)
missed_other test y w ws other h v within at = grind (arith, common_steps, contains_cases)

le-same : (n : ℕ) → n ≤ n
le-same n = omega arith

-- an address that comes after another one doesn't come back
not_later : (y : Addr4) (w : Way) (ws : List Way) → w.addr ≢ y → RisesFrom y.0 (w ∷ ws) → (v : Way) → Contains (w ∷ ws) v → v.addr ≡ y → ⊥
not_later y w ws other up v within at =
    let low : y.0 ≤ w.addr.0 = up.0 in
    let high : w.addr.0 ≤ v.addr.0 = elim (contains_cases w ws v within) [
      | inl same' ↦ subst (λ (f : Way). w.addr.0 ≤ f.addr.0) same' (le-same w.addr.0)
      | inr later ↦ rises_above w.addr.0 ws up.1 v later
    ] in
    let equal : v.addr.0 ≡ y.0 = ap (λ (a : Addr4). a.0) at in
    other (ap (λ (n : ℕ). record { 0 = n }) (let e : w.addr.0 ≡ y.0 = omega arith in e))

later_differs : (y : Addr4) (w v : Way) (ws : List Way) → RisesFrom y.0 (w ∷ ws) → Contains ws v → v.addr ≢ w.addr → v.addr ≢ y
later_differs y w v ws up within other at =
    let low : y.0 ≤ w.addr.0 = up.0 in
    let high : w.addr.0 ≤ v.addr.0 = rises_above w.addr.0 ws up.1 v within in
    let equal : v.addr.0 ≡ y.0 = ap (λ (a : Addr4). a.0) at in
    other (ap (λ (n : ℕ). record { 0 = n }) (let e : v.addr.0 ≡ w.addr.0 = omega arith in e))

misses_cons : (test : Way → Bool) (y : Addr4) (reached : Bool) (w : Way) (ws : List Way) (b : Bool) → Decides b (w.addr ≡ y) → RisesFrom y.0 (w ∷ ws) →
    cond b (are_all_reached_on test y (reached || test w) ws) (reached && are_all_reached_on test w.addr (test w) ws) ≡ false →
    (RisesFrom y.0 ws → are_all_reached_on test y (reached || test w) ws ≡ false → Misses test y (reached || test w) ws) →
    (RisesFrom w.addr.0 ws → are_all_reached_on test w.addr (test w) ws ≡ false → Misses test w.addr (test w) ws) → Misses test y reached (w ∷ ws)
unfolding Misses
misses_cons test y reached w ws true d up e goes_on begins =
    elim (goes_on (subst (λ (a : Addr4). RisesFrom a.0 ws) (d.0 refl) up.1) e) [
      | inl h ↦ let parts = or_parts reached (test w) h.0 in inl (parts.0, missed_first test y w ws parts.1 h.1)
      | inr h ↦ inr (h.0, contains_tail w ws h.0 h.1, h.2, missed_other test h.0.addr w ws (λ f. h.2 (sym f ∙ d.0 refl)) h.3)
    ]
misses_cons test y reached w ws false d up e goes_on begins =
    elim (and_cases reached (are_all_reached_on test w.addr (test w) ws) e) [
      | inl r ↦ inl (r, λ v within at. absurd (not_later y w ws (λ f. false≢true (d.1 f)) up v within at))
      | inr f ↦ elim (begins up.1 f) [
        | inl h ↦ inr (w, contains_head w ws, (λ at. false≢true (d.1 at)), missed_first test w.addr w ws h.0 h.1)
        | inr h ↦ inr (h.0, contains_tail w ws h.0 h.1, later_differs y w h.0 ws up h.1 h.2, missed_other test h.0.addr w ws (λ f. h.2 (sym f)) h.3)
      ]
    ]

misses_false : (test : Way → Bool) (y : Addr4) (reached : Bool) (ws : List Way) → RisesFrom y.0 ws → are_all_reached_on test y reached ws ≡ false → Misses test y reached ws
unfolding Misses
misses_false test y reached [] up e = inl (e, λ v within. absurd (contains_none v within))
misses_false test y reached (w ∷ ws) up e = grind (arith, common_steps, misses_cons, Decides-addr, (misses_false test y (reached || test w) ws), (misses_false test w.addr (test w) ws))

pub one_missed : (test : Way → Bool) (ways : List Way) → RisesFrom 0 ways → are_all_reached test ways ≡ false →
    (w : Way) × Contains ways w × Missed test w.addr ways
unfolding Misses
one_missed test [] up e = absurd (true≢false e)
one_missed test (v ∷ ways) up e =
    elim (misses_false test v.addr (test v) ways up.1 e) [
      | inl h ↦ (v, contains_head v ways, missed_first test v.addr v ways h.0 h.1)
      | inr h ↦ (h.0, contains_tail v ways h.0 h.1, missed_other test h.0.addr v ways (λ f. h.2 (sym f)) h.3)
    ]
