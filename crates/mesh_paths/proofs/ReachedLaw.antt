-- A row that gets better keeps the state of a search and brings it nearer to its end; when none does any more, it has found a tree.
use Rattle.mesh_paths.proofs.Common.{common_steps, ◌≡◌, ◌≢◌, ◌↔◌, ℕ, ◌+◌, ◌*◌, ◌<◌, ◌≤◌, ◌⊎◌, inl, inr, refl, sym, ◌∙◌, ap, subst, arith, Bool, true, false, cond, IsTrue, List, [], ◌∷◌, length, Contains, Option, Some, None, sum_by, is_eq, cases_lt, cases_Bool, tied_itself, sum_by-cons, values_of, NetAddr, Arc4, Graph, PathRow, IsBefore, IsAtMost, net_cmp, net_total, net_exact, is_equal, HasCosts, IsCertificate, OffersBy, IsAsGood, IsSettledRow, IsKeyed, Settles, RowMap, missing_of, weight_of, missing_in, weight_in, IsMetIn, Betters, IsOfferBy, HasAsGood, IsInRange, IsLedTo, HasLedRows, contains_tail as in_tail, contains_cases}
use Rattle.std.specs.BTreeMap as tree
use Rattle.mesh_paths.proofs.Order.{same_node, at_most_or_before}
use Rattle.mesh_paths.proofs.Found.{tree_found, certificate_of_rows}

-- Sums over one list

sums_upto : {A : Type 0} (f g : A → ℕ) (xs : List A) → ((x : A) → Contains xs x → f x ≤ g x) → sum_by f xs ≤ sum_by g xs
sums_upto f g [] each = omega arith
sums_upto f g (x ∷ xs) each = omega (arith, sum_by-cons f x xs, sum_by-cons g x xs, each x (0, omega arith, refl), sums_upto f g xs (λ y has. each y (in_tail x xs y has)))

pub sums_less : {A : Type 0} (f g : A → ℕ) (xs : List A) (a : A) → ((x : A) → Contains xs x → f x ≤ g x) → Contains xs a → f a < g a → sum_by f xs < sum_by g xs
sums_less f g [] a each has less = absurd (omega (arith, has.1))
sums_less {A} f g (x ∷ xs) a each has less = elim (contains_cases x xs a has) [
  | inl same ↦
      let at : f x < g x = subst (λ (y : A). f y < g y) (sym same) less in
      omega (arith, sum_by-cons f x xs, sum_by-cons g x xs, sums_upto f g xs (λ y h. each y (in_tail x xs y h)))
  | inr later ↦ omega (arith, sum_by-cons f x xs, sum_by-cons g x xs, each x (0, omega arith, refl), sums_less f g xs a (λ y h. each y (in_tail x xs y h)) later less)
]

sums_short : {A : Type 0} (f : A → ℕ) (xs : List A) → ((x : A) → f x ≤ 1) → sum_by f xs ≤ length xs
sums_short f [] each = omega arith
sums_short f (x ∷ xs) each = omega (arith, sum_by-cons f x xs, each x, sums_short f xs each)

-- Rows at their nodes

pub settled_at : (map : RowMap) (node : NetAddr) (row : PathRow) → IsKeyed map → tree.get net_cmp map node ≡ Some row → IsSettledRow map row
settled_at map node row keyed at = subst (λ (n : NetAddr). tree.get net_cmp map n ≡ Some row) (sym (keyed node row at)) at

-- A row that gets better
module _ (old new : RowMap) (arc : Arc4) (row : PathRow) (betters : Betters old row new) (fits : IsInRange arc row) where
  at : (node : NetAddr) → ((node ≡ row.node) × (tree.get net_cmp new node ≡ Some row)) ⊎ (tree.get net_cmp new node ≡ tree.get net_cmp old node)
  at node = elim (same_node node row.node) [
    | inl same ↦ inl (same, subst (λ (n : NetAddr). tree.get net_cmp new n ≡ Some row) (sym same) betters.has)
    | inr off ↦ inr (betters.others node off)
  ]

  lighter : (before : Option PathRow) → tree.get net_cmp old row.node ≡ before → weight_of (Some row) < weight_of before
  lighter before e = grind (arith, common_steps)

  lighter_at : (node : NetAddr) → node ≡ row.node → tree.get net_cmp new node ≡ Some row → weight_of (tree.get net_cmp new node) < weight_of (tree.get net_cmp old node)
  lighter_at node same is = grind (arith, common_steps, lighter)

  no_heavier : (node : NetAddr) → weight_of (tree.get net_cmp new node) ≤ weight_of (tree.get net_cmp old node)
  no_heavier node = grind (arith, common_steps, lighter_at)

  no_more : (node : NetAddr) → missing_of (tree.get net_cmp new node) ≤ missing_of (tree.get net_cmp old node)
  no_more node = grind (arith, common_steps)

  -- each node keeps a row, no dearer
  lower : (r : PathRow) → IsSettledRow old r → (p : PathRow) × IsSettledRow new p × (p.node ≡ r.node) × (p.metric ≤ r.metric)
  lower r has = elim (at r.node) [
    | inl (same, is) ↦ (row, betters.has, sym same, elim (betters.better r (subst (λ (n : NetAddr). tree.get net_cmp old n ≡ Some r) same has)) [ inl less ↦ omega arith | inr (e, _) ↦ omega arith ])
    | inr is ↦ (r, is ∙ has, refl, omega arith)
  ]

  -- An arc that offers the row
  module _ (arcs : List Arc4) (from : NetAddr) (there : Contains arcs arc) (cost : 1 ≤ arc.metric) (offer : IsOfferBy old arc row) (now : HasLedRows old arcs from) where
    pub lighter_in : weight_in new arcs < weight_in old arcs
    lighter_in = sums_less (λ (a : Arc4). weight_of (tree.get net_cmp new a.to)) (λ (a : Arc4). weight_of (tree.get net_cmp old a.to)) arcs arc (λ a _. no_heavier a.to) there
        (lighter_at arc.to ends (subst (λ (n : NetAddr). tree.get net_cmp new n ≡ Some row) (sym ends) betters.has))
      where
        ends : arc.to ≡ row.node
        ends = offer.4

    no_more_in : missing_in new arcs ≤ missing_in old arcs
    no_more_in = sums_upto (λ (a : Arc4). missing_of (tree.get net_cmp new a.to)) (λ (a : Arc4). missing_of (tree.get net_cmp old a.to)) arcs (λ a _. no_more a.to)

    fewer_in : tree.get net_cmp old row.node ≡ None → missing_in new arcs < missing_in old arcs
    fewer_in none =
        let ends : arc.to ≡ row.node = offer.4 in
        let here : missing_of (tree.get net_cmp new arc.to) ≡ 0 = ap missing_of (subst (λ (n : NetAddr). tree.get net_cmp new n ≡ Some row) (sym ends) betters.has) in
        let before : missing_of (tree.get net_cmp old arc.to) ≡ 1 = ap missing_of (subst (λ (n : NetAddr). tree.get net_cmp old n ≡ None) (sym ends) none) in
        sums_less (λ (a : Arc4). missing_of (tree.get net_cmp new a.to)) (λ (a : Arc4). missing_of (tree.get net_cmp old a.to)) arcs arc (λ a _. no_more a.to) there (omega arith)

    is_row : (r : PathRow) → tree.get net_cmp new r.node ≡ Some row → IsSettledRow new r → row ≡ r
    is_row r is has = let h : Some row ≡ Some r = sym is ∙ has in (cc)

    keyed_new : IsKeyed new
    keyed_new node r has = elim (at node) [
      | inl (same, is) ↦
          let h : Some row ≡ Some r = sym is ∙ has in
          let e : row ≡ r = (cc) in
          ap (λ (x : PathRow). x.node) (sym e) ∙ sym same
      | inr is ↦ now.keyed node r (sym is ∙ has)
    ]

    start_new : IsSettledRow new (record { node = from; metric = 0; parent = from })
    start_new = elim (same_node from row.node) [
      | inl same ↦ elim (betters.better (record { node = from; metric = 0; parent = from }) (subst (λ (n : NetAddr). tree.get net_cmp old n ≡ Some (record { node = from; metric = 0; parent = from })) same now.start)) [
        | inl less ↦ absurd (omega arith)
        | inr (none, _) ↦ absurd (omega (arith, offer.5))
      ]
      | inr off ↦ betters.others from off ∙ now.start
    ]

    led_row : IsLedTo new arcs from row
    led_row =
        let (first, has, begins, parent, ends, sum) = offer in
        let (p, has_p, same, low) = lower first has in
        inr (p, arc, has_p, there, sym begins ∙ sym same, ends, omega arith, same ∙ parent)

    led_new : (r : PathRow) → IsSettledRow new r → IsLedTo new arcs from r
    led_new r has = elim (at r.node) [
      | inl (_, is) ↦ subst (λ (x : PathRow). IsLedTo new arcs from x) (is_row r is has) led_row
      | inr is ↦ elim (now.led r (sym is ∙ has)) [
        | inl start ↦ inl start
        | inr (f, a, has_f, there_a, begins, ends, low, parent) ↦
            let (p, has_p, same, lower_p) = lower f has_f in
            inr (p, a, has_p, there_a, begins ∙ sym same, ends, omega arith, same ∙ parent)
      ]
    ]

    small_row : (before : Option PathRow) → tree.get net_cmp old row.node ≡ before → row.metric + 4294967295 * missing_in new arcs ≤ 4294967295 * length arcs
    small_row None e = let (first, has, _, _, _, sum) = offer in omega (arith, fewer_in e, now.small first has)
    small_row (Some b) e =
        let has : IsSettledRow old b = settled_at old row.node b now.keyed e in
        elim (betters.better b e) [
          | inl less ↦ omega (arith, no_more_in, now.small b has)
          | inr (same, _) ↦ omega (arith, no_more_in, now.small b has)
        ]

    small_new : (r : PathRow) → IsSettledRow new r → r.metric + 4294967295 * missing_in new arcs ≤ 4294967295 * length arcs
    small_new r has = elim (at r.node) [
      | inl (_, is) ↦ subst (λ (x : PathRow). x.metric + 4294967295 * missing_in new arcs ≤ 4294967295 * length arcs) (is_row r is has) (small_row (tree.get net_cmp old row.node) refl)
      | inr is ↦ omega (arith, no_more_in, now.small r (sym is ∙ has))
    ]

    pub reached_new : HasLedRows new arcs from
    reached_new = record { keyed = keyed_new; start = start_new; led = led_new; small = small_new }

-- An arc is tried

not_at_most : (a b : NetAddr) → (IsAtMost a b → ⊥) → IsBefore b a
not_at_most a b not = elim (at_most_or_before a b) [ inl at_most ↦ absurd (not at_most) | inr before ↦ before ]

-- the row of the node decides whether it is as good
pub as_good_by : (map : RowMap) (node : NetAddr) (metric cost : ℕ) (parent : NetAddr) (before : PathRow) (b : Bool) → tree.get net_cmp map node ≡ Some before → cost ≡ metric → IsTrue b ↔ IsAsGood before cost parent → IsTrue b ↔ HasAsGood map node metric parent
as_good_by map node metric cost parent before b found same test = (
  λ e. (before, found, subst (λ (n : ℕ). IsAsGood before n parent) same (test.0 e)),
  λ (r, at, good).
      let h : Some r ≡ Some before = sym at ∙ found in
      let e : r ≡ before = (cc) in
      test.1 (subst (λ (n : ℕ). IsAsGood before n parent) (sym same) (subst (λ (x : PathRow). IsAsGood x metric parent) e good)),
)

pub met_already : (map : RowMap) (arc : Arc4) (first : PathRow) (metric : ℕ) → IsKeyed map → tree.get net_cmp map arc.from ≡ Some first → metric ≡ first.metric + arc.metric → HasAsGood map arc.to metric arc.from → IsMetIn map arc
met_already map arc first metric keyed found sum (b, at, good) r has begins =
    let found_r : tree.get net_cmp map arc.from ≡ Some r = subst (λ (n : NetAddr). tree.get net_cmp map n ≡ Some r) begins has in
    let h : Some first ≡ Some r = sym found ∙ found_r in
    let same : first ≡ r = (cc) in
    let e : b.node ≡ arc.to = keyed arc.to b at in
    let one : IsAsGood b (first.metric + arc.metric) arc.from = subst (λ (x : ℕ). IsAsGood b x arc.from) sum good in
    let two : IsAsGood b (r.metric + arc.metric) arc.from = subst (λ (x : PathRow). IsAsGood b (x.metric + arc.metric) arc.from) same one in
    (b, settled_at map arc.to b keyed at, e, subst (λ (n : NetAddr). IsAsGood b (r.metric + arc.metric) n) (sym begins) two)

better_of : (before : PathRow) (metric : ℕ) (parent : NetAddr) → (IsAsGood before metric parent → ⊥) → (metric < before.metric) ⊎ ((metric ≡ before.metric) × IsBefore parent before.parent)
better_of before metric parent not = grind (arith, common_steps, cases_lt, not_at_most)

-- a row goes in where none is as good
pub betters_by : (map new : RowMap) (row : PathRow) (b : Bool) → IsTrue b ↔ HasAsGood map row.node row.metric row.parent → b ≡ false →
    ((q : NetAddr) → tree.get net_cmp new q ≡ cond (is_eq (net_cmp row.node q)) (Some row) (tree.get net_cmp map q)) → Betters map row new
betters_by map new row b test not updates = record {
  has = updates row.node ∙ ap (λ (x : Bool). cond x (Some row) (tree.get net_cmp map row.node)) (ap is_eq (tied_itself net_total row.node));
  others = others;
  better = λ before is. better_of before row.metric row.parent (λ good. let t : b ≡ true = test.1 (before, is, good) in (cc));
}
  where
    others : (q : NetAddr) → q ≢ row.node → tree.get net_cmp new q ≡ tree.get net_cmp map q
    others q off = elim (cases_Bool (is_eq (net_cmp row.node q))) [
      | inl e ↦ absurd (off (sym (net_exact row.node q (is_equal (net_cmp row.node q) e))))
      | inr e ↦ updates q ∙ ap (λ (x : Bool). cond x (Some row) (tree.get net_cmp map q)) e
    ]

-- The search begins

-- an empty map has no row
pub none_settled : (map : RowMap) → map.entries ≡ [] → (r : PathRow) → IsSettledRow map r → ⊥
none_settled map empty r has = grind (arith, common_steps)

pub reached_start : (old new : RowMap) (arcs : List Arc4) (from : NetAddr) → ((r : PathRow) → IsSettledRow old r → ⊥) → Settles (IsSettledRow old) (record { node = from; metric = 0; parent = from }) (IsSettledRow new) → IsKeyed new → HasLedRows new arcs from
reached_start old new arcs from none settles keyed = grind (arith, common_steps, length, sums_short)

-- The search ends
module _ (m : RowMap) (arcs : List Arc4) (from : NetAddr) (now : HasLedRows m arcs from) (met : (arc : Arc4) → Contains arcs arc → IsMetIn m arc) where
  offered : (r : PathRow) → IsSettledRow m r → OffersBy (IsSettledRow m) arcs from r.node r.metric r.parent
  offered r has = elim (now.led r has) [
    | inl start ↦ inl start
    | inr (f, a, has_f, there, begins, ends, low, parent) ↦
        let (q, has_q, at, good) = met a there f has_f (sym begins) in
        let found : tree.get net_cmp m r.node ≡ Some q = subst (λ (n : NetAddr). tree.get net_cmp m n ≡ Some q) (at ∙ ends) has_q in
        let h : Some q ≡ Some r = sym found ∙ has in
        let same : q ≡ r = (cc) in
        let metrics : q.metric ≡ r.metric = ap (λ (x : PathRow). x.metric) same in
        elim good [
          | inl less ↦ absurd (omega arith)
          | inr (sum, _) ↦ inr (f, a, has_f, there, begins, ends, omega arith, parent)
        ]
  ]

  pub certificate_of_reached : (g : Graph) → HasCosts g → arcs ≡ g.arcs → tree.IsOrdered net_cmp m → (rows : List PathRow) → rows ≡ values_of m.entries → IsCertificate g from (record { rows = rows })
  certificate_of_reached g costs is ordered rows e = certificate_of_rows g from costs arcs (values_of m.entries) is
      (tree_found m now.keyed ordered arcs from (record { node = from; metric = 0; parent = from }, now.start, refl, inr (refl, inr (refl, omega arith)))
      (λ r a has there begins. met a there r has (sym begins)) offered) rows e
