-- The ways that are kept are the cheapest ones.
use Rattle.mesh_relay.proofs.Common.{◌≡◌, ℕ, ◌+◌, ◌≤◌, ◌<◌, ◌⊎◌, Bool, true, false, cond, nat_eq, nat_lt, List, [], ◌∷◌, Some, None, length, get_or, suc, refl, sym, ◌∙◌, ap, subst, inl, inr, arith, All, Ordering, Contains, filter_map, IsPermutation, common_steps, dedup, dedup_from, IsSorted, false≢true, true≢false, and_parts, and_from, or_cases, or_left, lt-ltb, cases_lt, Contains-get_or, Contains-permutation, IsPermutation-sym, Addr4, Near, Far, NeighbourGraph, Offers, IsWilling, addr_eq, Way, is_direct_within, AreWilling, IsAt, IsDirect, IsCheapest, HasWay, RisesFrom, AreWays, way_at, way_from, is_no_better, Decides-addr, some_equal, none_is_some, contains_none, contains_head, contains_cases, contains_tail}
use Rattle.std.specs.Ordering.{MatchOrdering, nat_cmp, ordering_then, is_lt}
use Rattle.std.proofs.lemmas.Cmp.{ranked}
use Rattle.mesh_relay.proofs.Decide.{Decides-direct}
use Rattle.mesh_relay.proofs.Lists.{given_by, gives, dedup_within, joined, kept_within}
use Rattle.mesh_relay.proofs.Willing.{one_near}

-- Ways in order

-- by address, and then by cost
abbrev pub InOrder : Way → Way → Type 0
InOrder a b = (a.addr.0 < b.addr.0) ⊎ ((a.addr.0 ≡ b.addr.0) × (a.cost ≤ b.cost))

abbrev pub Rises : Way → List Way → Type 0
Rises k [] = Unit {0}
Rises k (x ∷ xs) = InOrder k x × Rises x xs

abbrev pub IsInOrder : List Way → Type 0
IsInOrder [] = Unit {0}
IsInOrder (k ∷ xs) = Rises k xs

in_order_itself : (k : Way) → InOrder k k
in_order_itself k = inr (refl, omega arith)

in_order_on : (a b c : Way) → InOrder a b → InOrder b c → InOrder a c
in_order_on a b c p q = grind (arith, common_steps)

rises_lower : (j k : Way) (xs : List Way) → InOrder j k → Rises k xs → Rises j xs
rises_lower j k [] le h = tt
rises_lower j k (x ∷ xs) le h = (in_order_on j k x le h.0, h.1)

rises_above : (k : Way) (xs : List Way) (v : Way) → Rises k xs → Contains (k ∷ xs) v → InOrder k v
rises_above k [] v up w = grind (arith, common_steps, contains_cases, in_order_itself, contains_none)
rises_above k (x ∷ xs) v up w = elim (contains_cases k (x ∷ xs) v w) [
  | inl e ↦ subst (InOrder k) e (in_order_itself k)
  | inr h ↦ in_order_on k x v up.0 (rises_above x xs v up.1 h)
]

addr_le : (a b : Way) → InOrder a b → a.addr.0 ≤ b.addr.0
addr_le a b p = elim p [ inl lt ↦ omega arith | inr e ↦ let f : a.addr.0 ≡ b.addr.0 = e.0 in omega arith ]

cost_le : (a b : Way) → InOrder a b → a.addr ≡ b.addr → a.cost ≤ b.cost
cost_le a b p e = grind (arith, common_steps)

-- What is kept stays in order

rises_cond : (b : Bool) (low : ℕ) (a c : List Way) → RisesFrom low a → RisesFrom low c → RisesFrom low (cond b a c)
rises_cond b low a c h h' = grind (arith, common_steps)

kept_rises : (low : ℕ) (k : Way) (xs : List Way) → low ≤ k.addr.0 → Rises k xs → RisesFrom low (dedup_from is_no_better k xs)
kept_rises low k [] le up = (le, tt)
kept_rises low k (x ∷ xs) le up =
    rises_cond (is_no_better x k) low (dedup_from is_no_better k xs) (k ∷ dedup_from is_no_better x xs)
    (kept_rises low k xs le (rises_lower k x xs up.0 up.1))
    (le, kept_rises k.addr.0 x xs (addr_le k x up.0) up.1)

dedup_rises : (sorted : List Way) → IsInOrder sorted → RisesFrom 0 (dedup is_no_better sorted)
dedup_rises sorted up = grind (arith, common_steps, kept_rises)

-- What is kept is cheapest

same_addr : (x k : Way) → is_no_better x k ≡ true → x.addr ≡ k.addr
same_addr x k e = (Decides-addr x.addr k.addr).0 (and_parts _ _ e).0

no_cheaper : (x k : Way) → is_no_better x k ≡ false → x.addr ≡ k.addr → k.cost < x.cost → ⊥
no_cheaper x k e at lt = grind (arith, common_steps, true≢false, and_from, nat_lt, nat_eq, or_left, lt-ltb)

abbrev IsLeastIn : List Way → List Way → Type 0
IsLeastIn kept all = (w v : Way) → Contains kept w → Contains all v → v.addr ≡ w.addr → w.cost ≤ v.cost

least_joined : (k x : Way) (xs a : List Way) → is_no_better x k ≡ true → InOrder k x → IsLeastIn a (k ∷ xs) → IsLeastIn a (k ∷ x ∷ xs)
least_joined k x xs a e up h w v in' there at = elim (contains_cases k (x ∷ xs) v there) [
  | inl f ↦ h w v in' (subst (Contains (k ∷ xs)) f (contains_head k xs)) at
  | inr later ↦ elim (contains_cases x xs v later) [
    | inl f ↦
        let here : x.addr ≡ w.addr = ap (λ (y : Way). y.addr) f ∙ at in
        let low : w.cost ≤ k.cost = h w k in' (contains_head k xs) (sym (same_addr x k e) ∙ here) in
        let high : k.cost ≤ x.cost = cost_le k x up (sym (same_addr x k e)) in
        let end : x.cost ≡ v.cost = ap (λ (y : Way). y.cost) f in
        omega arith
    | inr last ↦ h w v in' (contains_tail k xs v last) at
  ]
]

-- a way that is kept later has a later address, or no other cost
first_no_dearer : (k x w : Way) (xs : List Way) → is_no_better x k ≡ false → InOrder k x → Rises x xs → Contains (x ∷ xs) w → k.addr ≡ w.addr →
    (x.addr ≡ w.addr → w.cost ≤ x.cost) → w.cost ≤ k.cost
first_no_dearer k x w xs e up rises there at h =
    let low : k.addr.0 ≤ x.addr.0 = addr_le k x up in
    let high : x.addr.0 ≤ w.addr.0 = addr_le x w (rises_above x xs w rises there) in
    let ends : k.addr.0 ≡ w.addr.0 = ap (λ (y : Addr4). y.0) at in
    let equal : x.addr.0 ≡ k.addr.0 = omega arith in
    let here : x.addr ≡ k.addr = ap (λ (n : ℕ). record { 0 = n }) equal in
    let le : w.cost ≤ x.cost = h (here ∙ at) in
    let not_less : k.cost < x.cost → ⊥ = no_cheaper x k e here in
    omega arith

least_kept : (k x : Way) (xs c : List Way) → is_no_better x k ≡ false → InOrder k x → Rises x xs → ((w : Way) → Contains c w → Contains (x ∷ xs) w) →
    IsLeastIn c (x ∷ xs) → IsLeastIn (k ∷ c) (k ∷ x ∷ xs)
least_kept k x xs c e up rises inside h w v in' there at = elim (contains_cases k c w in') [
  | inl f ↦ subst (λ (y : Way). y.cost ≤ v.cost) f (cost_le k v (rises_above k (x ∷ xs) v (up, rises) there) (ap (λ (y : Way). y.addr) f ∙ sym at))
  | inr later ↦ elim (contains_cases k (x ∷ xs) v there) [
    | inl f ↦ subst (λ (y : Way). w.cost ≤ y.cost) f
        (first_no_dearer k x w xs e up rises (inside w later) (ap (λ (y : Way). y.addr) f ∙ at) (λ here. h w x later (contains_head x xs) here))
    | inr last ↦ h w v later last at
  ]
]

least_cond : (b : Bool) (k x : Way) (xs a c : List Way) → is_no_better x k ≡ b → InOrder k x → Rises x xs → ((w : Way) → Contains c w → Contains (x ∷ xs) w) →
    IsLeastIn a (k ∷ xs) → IsLeastIn c (x ∷ xs) → IsLeastIn (cond b a (k ∷ c)) (k ∷ x ∷ xs)
least_cond true k x xs a c e up rises inside h h' = least_joined k x xs a e up h
least_cond false k x xs a c e up rises inside h h' = least_kept k x xs c e up rises inside h'

least_one : (k : Way) → IsLeastIn (k ∷ []) (k ∷ [])
least_one k w v in' there at = grind (arith, common_steps, contains_cases, contains_none)

least : (k : Way) (xs : List Way) → Rises k xs → IsLeastIn (dedup_from is_no_better k xs) (k ∷ xs)
least k [] up = least_one k
least k (x ∷ xs) up =
    least_cond (is_no_better x k) k x xs (dedup_from is_no_better k xs) (dedup_from is_no_better x xs) refl up.0 up.1
    (λ w h. dedup_within is_no_better x xs w h) (least k xs (rises_lower k x xs up.0 up.1)) (least x xs up.1)

dedup_least : (sorted : List Way) → IsInOrder sorted → IsLeastIn (dedup is_no_better sorted) sorted
dedup_least [] up w v in' there at = absurd (contains_none w in')
dedup_least (k ∷ xs) up w v in' there at = least k xs up w v in' there at

-- What an entry gives

-- the neighbour that gives the entry its way
record Found (g : NeighbourGraph) (start : ℕ) (ns : List Near) (f : Far) : Type 0 where
  near : Near
  index : ℕ
  at : IsAt ns index near
  via : near.id ≡ f.via
  place : ℕ
  is : place ≡ start + index
  gives : way_from g start ns f ≡ way_at g place near f

abbrev NoneFound : NeighbourGraph → ℕ → List Near → Far → Type 0
NoneFound g start ns f = ((n : Near) → Contains ns n → n.id ≡ f.via → ⊥) × (way_from g start ns f ≡ None)

found_cons : (g : NeighbourGraph) (start : ℕ) (n : Near) (ns : List Near) (f : Far) (b : Bool) → addr_eq n.id f.via ≡ b →
    NoneFound g (start + 1) ns f ⊎ Found g (start + 1) ns f → NoneFound g start (n ∷ ns) f ⊎ Found g start (n ∷ ns) f
found_cons g start n ns f true e h = grind (arith, common_steps, Decides-addr, way_from)
found_cons g start n ns f false e h =
    let on : way_from g start (n ∷ ns) f ≡ way_from g (start + 1) ns f = ap (λ (t : Bool). cond t (way_at g start n f) (way_from g (start + 1) ns f)) e in
    elim h [
      | inl none ↦ inl (
        λ m w id. elim (contains_cases n ns m w) [
          | inl is ↦ false≢true (sym e ∙ (Decides-addr n.id f.via).1 (ap (λ (x : Near). x.id) is ∙ id))
          | inr later ↦ none.0 m later id
        ],
        on ∙ none.1,
      )
      | inr r ↦ let lt : r.index < length ns = r.at.0 in let is' : r.place ≡ (start + 1) + r.index = r.is in inr (record {
        near = r.near;
        index = suc r.index;
        at = (omega arith, r.at.1);
        via = r.via;
        place = r.place;
        is = omega arith;
        gives = on ∙ r.gives;
      })
    ]

found : (g : NeighbourGraph) (start : ℕ) (ns : List Near) (f : Far) → NoneFound g start ns f ⊎ Found g start ns f
found g start [] f = inl (λ n w e. contains_none n w, refl)
found g start (n ∷ ns) f = found_cons g start n ns f (addr_eq n.id f.via) refl (found g (start + 1) ns f)

abbrev IsWayBy : NeighbourGraph → ℕ → Near → Far → Way → Type 0
IsWayBy g place n f w = (w ≡ record { addr = f.addr; cost = n.cost + f.cost; place = place }) × (IsDirect g f.addr (n.cost + f.cost) → ⊥)

way_at_cases : (g : NeighbourGraph) (place : ℕ) (n : Near) (f : Far) (b : Bool) → is_direct_within g f.addr (n.cost + f.cost) ≡ b →
    IsDirect g f.addr (n.cost + f.cost) ⊎ ((w : Way) × (way_at g place n f ≡ Some w) × IsWayBy g place n f w)
way_at_cases g place n f b e = grind (arith, common_steps, Decides-direct)

direct_gives_none : (g : NeighbourGraph) (place : ℕ) (n : Near) (f : Far) → IsDirect g f.addr (n.cost + f.cost) → way_at g place n f ≡ None
direct_gives_none g place n f d = grind (arith, common_steps, Decides-direct)

way_at_is : (g : NeighbourGraph) (place : ℕ) (n : Near) (f : Far) (w : Way) → way_at g place n f ≡ Some w → IsWayBy g place n f w
way_at_is g place n f w e = grind (arith, common_steps, way_at_cases, place, none_is_some, direct_gives_none, some_equal)

-- The ways of a graph

-- what a way says of the graph, but that it is cheapest
record IsGiven (g : NeighbourGraph) (willing : List Near) (w : Way) : Type 0 where
  near : Near
  at : IsAt willing w.place near
  far : Far
  within : Contains g.far far
  via : near.id ≡ far.via
  by : IsWayBy g w.place near far w

given : (g : NeighbourGraph) (willing : List Near) (w : Way) → Contains (filter_map (λ f. way_from g 0 willing f) g.far) w → IsGiven g willing w
given g willing w h =
    let f = given_by (λ (x : Far). way_from g 0 willing x) g.far w h in
    elim (found g 0 willing f.0) [
      | inl none ↦ absurd (none_is_some (sym none.1 ∙ f.2))
      | inr r ↦
          let is = way_at_is g r.place r.near f.0 w (sym r.gives ∙ f.2) in
          let start : r.place ≡ 0 + r.index = r.is in
          let place : w.place ≡ r.place = ap (λ (x : Way). x.place) is.0 in
          let index : r.index ≡ w.place = omega arith in
          record {
            near = r.near;
            at = subst (λ (k : ℕ). IsAt willing k r.near) index r.at;
            far = f.0;
            within = f.1;
            via = r.via;
            by = subst (λ (k : ℕ). IsWayBy g k r.near f.0 w) (sym place) is;
          }
    ]

-- each entry by a willing neighbour gives that way, or a direct entry is as cheap
complete : (g : NeighbourGraph) (willing : List Near) (n : Near) (f : Far) → AreWilling g willing → Contains willing n → Contains g.far f → n.id ≡ f.via →
    IsDirect g f.addr (n.cost + f.cost) ⊎ ((v : Way) × Contains (filter_map (λ x. way_from g 0 willing x) g.far) v × ((v.addr ≡ f.addr) × ((v.cost ≡ n.cost + f.cost) × IsAt willing v.place n)))
complete g willing n f are within far via = elim (found g 0 willing f) [
  | inl none ↦ absurd (none.0 n within via)
  | inr r ↦
      let n-at : IsAt willing within.0 n = (within.1, within.2) in
      let is : r.near ≡ n = one_near willing r.index within.0 r.near n are.order r.at n-at (r.via ∙ sym via) in
      elim (way_at_cases g r.place r.near f (is_direct_within g f.addr (r.near.cost + f.cost)) refl) [
        | inl d ↦ inl (subst (λ (x : Near). IsDirect g f.addr (x.cost + f.cost)) is d)
        | inr h ↦
            let start : r.place ≡ 0 + r.index = r.is in
            let place : h.0.place ≡ r.place = ap (λ (x : Way). x.place) h.2.0 in
            let index : r.index ≡ h.0.place = omega arith in
            inr (
              h.0,
              gives (λ (x : Far). way_from g 0 willing x) g.far f h.0 far (r.gives ∙ h.1),
              (
                ap (λ (x : Way). x.addr) h.2.0,
                (
                  ap (λ (x : Way). x.cost) h.2.0 ∙ ap (λ (x : Near). x.cost + f.cost) is,
                  subst (λ (k : ℕ). IsAt willing k n) index (subst (λ (x : Near). IsAt willing r.index x) is r.at),
                ),
              ),
            )
      ]
]

kept_least : (g : NeighbourGraph) (willing : List Near) (sorted ways : List Way) → AreWilling g willing →
    ((v : Way) → Contains (filter_map (λ f. way_from g 0 willing f) g.far) v → Contains sorted v) → IsLeastIn ways sorted →
    (w : Way) → Contains ways w → (IsDirect g w.addr w.cost → ⊥) → (c : ℕ) → Offers g IsWilling w.addr c → w.cost ≤ c
kept_least g willing sorted ways are has least' w within no_direct c o = elim o [
  | inl d ↦ elim (cases_lt c w.cost) [
    | inl lt ↦ let e : d.0.cost ≡ c = d.3 in absurd (no_direct (d.0, d.1, (d.2, omega arith)))
    | inr le ↦ le
  ]
  | inr m ↦ elim (complete g willing m.0 m.3 are ((are.each m.0).1 (m.1, m.2)) m.4 (sym m.5)) [
    | inl d ↦ elim (cases_lt c w.cost) [
      | inl lt ↦
          let e : m.0.cost + m.3.cost ≡ c = m.7 in
          let le : d.0.cost ≤ m.0.cost + m.3.cost = d.2.1 in
          absurd (no_direct (d.0, d.1, (d.2.0 ∙ m.6, omega arith)))
      | inr le ↦ le
    ]
    | inr v ↦
        let le : w.cost ≤ v.0.cost = least' w v.0 within (has v.0 v.1) (v.2.0 ∙ m.6) in
        let e : v.0.cost ≡ m.0.cost + m.3.cost = v.2.1.0 in
        let f : m.0.cost + m.3.cost ≡ c = m.7 in
        omega arith
  ]
]

cheapest_from : (g : NeighbourGraph) (willing : List Near) (w : Way) → IsGiven g willing w → ((IsDirect g w.addr w.cost → ⊥) → (c : ℕ) → Offers g IsWilling w.addr c → w.cost ≤ c) →
    IsCheapest g willing w
cheapest_from g willing w h least' =
    let addr : w.addr ≡ h.far.addr = ap (λ (x : Way). x.addr) h.by.0 in
    let cost : w.cost ≡ h.near.cost + h.far.cost = ap (λ (x : Way). x.cost) h.by.0 in
    let no_direct : IsDirect g w.addr w.cost → ⊥ = λ d. h.by.1 (subst (λ (y : Addr4). IsDirect g y (h.near.cost + h.far.cost)) addr (subst (λ (c : ℕ). IsDirect g w.addr c) cost d)) in
    record {
      near = h.near;
      at = h.at;
      far = h.far;
      within = h.within;
      via = h.via;
      addr = addr;
      cost = cost;
      no_direct = no_direct;
      least = least' no_direct;
    }

-- a way that another makes up for
way_or_cheaper : (willing : List Near) (ways : List Way) (n : Near) (f : Far) (v w : Way) → Contains ways w → (w ≡ v) ⊎ (is_no_better v w ≡ true) →
    v.addr ≡ f.addr → v.cost ≡ n.cost + f.cost → IsAt willing v.place n → HasWay willing ways n f
way_or_cheaper willing ways n f v w within same' addr cost at = grind (arith, common_steps, same_addr, or_cases)

pub are_ways : (g : NeighbourGraph) (willing : List Near) (offers sorted ways : List Way) → AreWilling g willing →
    offers ≡ filter_map (λ f. way_from g 0 willing f) g.far → IsPermutation offers sorted → IsInOrder sorted → ways ≡ dedup is_no_better sorted → AreWays g willing ways
are_ways g willing offers sorted ways are is moved up kept =
    let was = λ (v : Way) (h : Contains sorted v).
    subst (λ (l : List Way). Contains l v) is (Contains-permutation sorted offers v (IsPermutation-sym offers sorted moved) h) in
    let has = λ (v : Way) (h : Contains (filter_map (λ f. way_from g 0 willing f) g.far) v).
    Contains-permutation offers sorted v moved (subst (λ (l : List Way). Contains l v) (sym is) h) in
    let least' : IsLeastIn ways sorted = subst (λ (l : List Way). IsLeastIn l sorted) (sym kept) (dedup_least sorted up) in
    record {
      each = λ w h. cheapest_from g willing w (given g willing w (was w (kept_within is_no_better sorted w (subst (λ (l : List Way). Contains l w) kept h))))
          (kept_least g willing sorted ways are has least' w h);
      rest = λ n f within far via. elim (complete g willing n f are within far via) [
        | inl d ↦ inl d
        | inr v ↦
            let r = joined is_no_better sorted v.0 (has v.0 v.1) in
            inr (way_or_cheaper willing ways n f v.0 r.0 (subst (λ (l : List Way). Contains l r.0) (sym kept) r.1) r.2 v.2.0 v.2.1.0 v.2.1.1)
      ];
      order = subst (RisesFrom 0) (sym kept) (dedup_rises sorted up);
    }

pub places_within : (g : NeighbourGraph) (willing : List Near) (ways : List Way) (n : ℕ) → AreWays g willing ways → n ≡ length willing → All (λ w. w.place < n) ways
places_within g willing ways n are e k d lt =
    let w = get_or ways k d in
    subst (λ (m : ℕ). w.place < m) (sym e) (are.each w (Contains-get_or ways k d lt)).at.0

-- What a sort gives

in_order_cases : (a b : Way) (o p q : Ordering) → MatchOrdering o (b.addr.0 < a.addr.0) (b.addr.0 ≡ a.addr.0) (a.addr.0 < b.addr.0) →
    MatchOrdering p (b.cost < a.cost) (b.cost ≡ a.cost) (a.cost < b.cost) → is_lt (ordering_then o (ordering_then p q)) ≡ false → InOrder a b
in_order_cases a b o p q m n e = grind (arith, common_steps)

abbrev pub way_cmp : Way → Way → Ordering
way_cmp a b = ordering_then (nat_cmp a.addr.0 b.addr.0) (ordering_then (nat_cmp a.cost b.cost) (nat_cmp a.place b.place))

in_order_of : (a b : Way) → is_lt (way_cmp b a) ≡ false → InOrder a b
in_order_of a b e = grind (arith, common_steps, in_order_cases, ranked)

rises_sorted : (k : Way) (xs : List Way) → IsSorted way_cmp (k ∷ xs) → Rises k xs
rises_sorted k [] up = tt
rises_sorted k (x ∷ xs) up = (
  in_order_of k x (up 0 k (omega arith) (omega arith)),
  rises_sorted x xs (λ i d le lt.
      let next : suc i + 1 ≡ suc (i + 1) = omega arith in
      subst (λ (j : ℕ). is_lt (way_cmp (get_or (k ∷ x ∷ xs) j d) (get_or (x ∷ xs) i d)) ≡ false) next (up (suc i) d (omega arith) (omega arith))),
)

pub in_order_sorted : (xs : List Way) → IsSorted way_cmp xs → IsInOrder xs
in_order_sorted [] up = tt
in_order_sorted (k ∷ xs) up = rises_sorted k xs up
