-- The least routes of the routers of a settled network, one behind the other.
use Rattle.mesh_emulate.proofs.Common.{common_steps, ◌≡◌, ◌≢◌, ℕ, zero, suc, ◌+◌, List, [], ◌∷◌, ◌++◌, map, Some, inl, inr, refl, sym, ap, ◌∙◌, arith, Contains, slice_get, AllPairs, map-append, Contains-append_cases, Contains-append_left, Contains-append_right, NetAddr, Route, State, Reached, metrics_of}
use Rattle.std.proofs.lemmas.Simd.{map-map}
use Rattle.mesh_atoms.specs.Nodes.{IsBefore}
use Rattle.mesh_atoms.proofs.Lists.{contains_map_cases as from_map, all_pairs_cons, all_pairs_tail, contains_map, all_pairs_head}

abbrev pub reached_by : ℕ → Route → Reached
reached_by x r = record { router = x; dest = r.dest; metric = r.metric }

-- what routers in these states reach, the first of them of that number
abbrev pub all_reached : ℕ → List State → List Reached
all_reached i [] = []
all_reached i (p ∷ ps) = map (reached_by i) p.routes ++ all_reached (i + 1) ps

pub metrics_same : (i : ℕ) (ps : List State) → map (λ r. r.metric) (all_reached i ps) ≡ metrics_of ps
metrics_same i [] = refl
metrics_same i (p ∷ ps) =
    let metric : Reached → ℕ = λ r. r.metric in
    map-append metric (map (reached_by i) p.routes) (all_reached (i + 1) ps)
    ∙ rw (map-map metric (reached_by i) p.routes, metrics_same (i + 1) ps) refl

-- Of which router, and by which route

-- a route of the router of a number
pub record IsRouteOf (ps : List State) (i : ℕ) (q : Reached) : Type 0 where
  pub j : ℕ
  pub p : State
  pub at : slice_get ps j ≡ Some p
  pub r : Route
  pub within : Contains p.routes r
  pub is : reached_by (i + j) r ≡ q

pub where_from : (i : ℕ) (ps : List State) (q : Reached) → Contains (all_reached i ps) q → IsRouteOf ps i q
where_from i [] q (k, within, is) = absurd (omega (arith, within))
where_from i (p ∷ ps) q within = elim (Contains-append_cases (map (reached_by i) p.routes) (all_reached (i + 1) ps) q within) [
  | inl here ↦
      let found = from_map (reached_by i) p.routes q here in
      let same : i + 0 ≡ i = omega arith in
      record { j = 0; p = p; at = refl; r = found.0; within = found.1; is = ap (λ (x : ℕ). reached_by x found.0) same ∙ found.2 }
  | inr behind ↦
      let rest = where_from (i + 1) ps q behind in
      let same : i + suc rest.j ≡ (i + 1) + rest.j = omega arith in
      record { j = suc rest.j; p = rest.p; at = rest.at; r = rest.r; within = rest.within; is = ap (λ (x : ℕ). reached_by x rest.r) same ∙ rest.is }
]

pub is_there : (i n : ℕ) (ps : List State) (j : ℕ) (p : State) (r : Route) → i + j ≡ n → slice_get ps j ≡ Some p → Contains p.routes r →
    Contains (all_reached i ps) (reached_by n r)
is_there i n [] j p r place at within = absurd cc
is_there i n (s ∷ ps) zero p r place at within = grind (arith, common_steps, Contains-append_left, contains_map)
is_there i n (s ∷ ps) (suc j) p r place at within = grind (arith, common_steps, Contains-append_right, (is_there (i + 1) n ps j p r (omega (arith, place)) at within))

-- Each once

apart_both : {A : Type 0} (xs ys : List A) → AllPairs (λ a b. a ≢ b) xs → AllPairs (λ a b. a ≢ b) ys →
    ((x y : A) → Contains xs x → Contains ys y → x ≢ y) → AllPairs (λ a b. a ≢ b) (xs ++ ys)
apart_both [] ys one two cross = two
apart_both {A} (x ∷ xs) ys one two cross =
    let rest = apart_both xs ys (all_pairs_tail (λ (a b : A). a ≢ b) x xs one) two (λ a b within. cross a b (suc within.0, omega (arith, within.1), within.2)) in
    all_pairs_cons (λ (a b : A). a ≢ b) x (xs ++ ys)
    (λ y within. elim (Contains-append_cases xs ys y within) [
      | inl here ↦ all_pairs_head (λ (a b : A). a ≢ b) x xs one y here
      | inr there ↦ cross x y (0, omega arith, refl) there
    ]) rest

not_before : (a b : NetAddr) → IsBefore a b → a ≢ b
not_before a b h2 same = grind (arith, common_steps)

one_router_apart : (x : ℕ) (rows : List Route) → AllPairs (λ r t. IsBefore r.dest t.dest) rows →
    AllPairs (λ a b. a ≢ b) (map (reached_by x) rows)
one_router_apart x [] ordered = λ i j d less within. absurd (omega (arith, within))
one_router_apart x (r ∷ rows) ordered =
    all_pairs_cons (λ (a b : Reached). a ≢ b) (reached_by x r) (map (reached_by x) rows)
    (λ q within same.
    let found = from_map (reached_by x) rows q within in
    let dest : r.dest ≡ found.0.dest = ap (λ (y : Reached). y.dest) (same ∙ sym found.2) in
    not_before r.dest found.0.dest (all_pairs_head (λ (a b : Route). IsBefore a.dest b.dest) r rows ordered found.0 found.1) dest)
    (one_router_apart x rows (all_pairs_tail (λ (a b : Route). IsBefore a.dest b.dest) r rows ordered))

pub all_apart : (i : ℕ) (ps : List State) → ((j : ℕ) (p : State) → slice_get ps j ≡ Some p →
    AllPairs (λ r t. IsBefore r.dest t.dest) p.routes) →
    AllPairs (λ a b. a ≢ b) (all_reached i ps)
all_apart i [] ordered = λ j k d less within. absurd (omega (arith, within))
all_apart i (p ∷ ps) ordered =
    apart_both (map (reached_by i) p.routes) (all_reached (i + 1) ps) (one_router_apart i p.routes (ordered 0 p refl))
    (all_apart (i + 1) ps (λ j q at. ordered (suc j) q at))
    (λ a b within behind same.
    let mine = from_map (reached_by i) p.routes a within in
    let other = where_from (i + 1) ps b behind in
    let e : i ≡ (i + 1) + other.j = ap (λ (q : Reached). q.router) (mine.2 ∙ same ∙ sym other.is) in
    omega (arith, e))
