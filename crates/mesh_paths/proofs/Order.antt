-- The order of nodes and of offers, and ascending rows.
use Rattle.mesh_paths.proofs.Common.{common_steps, ◌≡◌, ℕ, zero, suc, ◌+◌, ◌-◌, ◌<◌, ◌≤◌, ◌⊎◌, inl, inr, refl, sym, ◌∙◌, ap, subst, arith, Some, List, ◌∷◌, length, Contains, slice_index_or, cases_eq, cases_lt, Contains-get_or, slice_get-get_or, get_or_from_slice_get, Addr4, NetAddr, IsBefore, IsAtMost, PathRow, same_net, AreAscendingRows, IsAsGood, before_trans, not_before_itself, at_most_itself, at_most_of_before}

-- Nodes

pub same_node : (a b : NetAddr) → (a ≡ b) ⊎ (a ≡ b → ⊥)
same_node a b = elim (cases_eq a.addr.0 b.addr.0) [
  | inl e ↦ elim (cases_eq a.prefix b.prefix) [
    | inl f ↦ inl (same_net a b (ap (λ (n : ℕ). let r : Addr4 = record { 0 = n } in r) e) f)
    | inr other ↦ inr (λ g. other (ap (λ (c : NetAddr). c.prefix) g))
  ]
  | inr other ↦ inr (λ g. other (ap (λ (c : NetAddr). c.addr.0) g))
]

pub at_most_or_before : (a b : NetAddr) → IsAtMost a b ⊎ IsBefore b a
at_most_or_before a b = grind (arith, common_steps, cases_lt, cases_eq)

pub at_most_trans : (a b c : NetAddr) → IsAtMost a b → IsAtMost b c → IsAtMost a c
at_most_trans a b c f g = grind (arith, common_steps)

pub at_most_both : (a b : NetAddr) → IsAtMost a b → IsAtMost b a → a ≡ b
at_most_both a b f g = grind (arith, common_steps, same_net)

-- Offers

pub as_good_itself : (row : PathRow) → IsAsGood row row.metric row.parent
as_good_itself row = inr (refl, at_most_itself row.parent row.parent refl)

pub as_good_trans : (a b : PathRow) (metric : ℕ) (parent : NetAddr) → IsAsGood a b.metric b.parent → IsAsGood b metric parent →
    IsAsGood a metric parent
as_good_trans a b metric parent f g = grind (arith, common_steps, at_most_trans)

-- one of two rows is as good as the other
pub one_as_good : (a b : PathRow) → IsAsGood a b.metric b.parent ⊎ IsAsGood b a.metric a.parent
one_as_good a b = grind (arith, common_steps, cases_lt, at_most_or_before, at_most_of_before)

pub no_dearer : (row : PathRow) (metric : ℕ) (parent : NetAddr) → IsAsGood row metric parent → row.metric ≤ metric
no_dearer row metric parent good = elim good [ inl less ↦ omega arith | inr (same, _) ↦ omega arith ]

-- Ascending rows

-- each row stands before all later ones
pub before_later : (rows : List PathRow) → AreAscendingRows rows → (k n : ℕ) (d : PathRow) → k + (n + 1) < length rows → IsBefore (slice_index_or rows k d).node (slice_index_or rows (k + (n + 1)) d).node
before_later rows up k zero d l = up k d l
before_later rows up k (suc n) d l = grind (arith, common_steps, slice_index_or, before_trans, before_later rows up k n d (omega arith))

-- rows at two places, of which the first is the lesser, have different nodes
apart : (rows : List PathRow) → AreAscendingRows rows → (r t : PathRow) (i j : ℕ) → i < j → j < length rows → slice_index_or rows i r ≡ r → slice_index_or rows j t ≡ t → r.node ≡ t.node → ⊥
apart rows up r t i j less in_j is_r is_t e =
    let at_j : slice_index_or rows j r ≡ t = get_or_from_slice_get rows j t r (slice_get-get_or rows j t in_j ∙ ap Some is_t) in
    let place : i + ((j - (i + 1)) + 1) ≡ j = omega arith in
    let later : IsBefore (slice_index_or rows i r).node (slice_index_or rows j r).node = rw place at (before_later rows up i (j - (i + 1)) r (omega arith)) in
    not_before_itself (slice_index_or rows i r).node (slice_index_or rows j r).node (ap (λ (x : PathRow). x.node) is_r ∙ e ∙ sym (ap (λ (x : PathRow). x.node) at_j)) later

-- a row of ascending rows is known by its node
pub single : (rows : List PathRow) → AreAscendingRows rows → (r t : PathRow) → Contains rows r → Contains rows t → r.node ≡ t.node → r ≡ t
single rows up r t (i, in_i, is_r) (j, in_j, is_t) e = elim (cases_lt i j) [
  | inl less ↦ absurd (apart rows up r t i j less in_j is_r is_t e)
  | inr more ↦ elim (cases_lt j i) [
    | inl less ↦ absurd (apart rows up t r j i less in_i is_t is_r (sym e))
    | inr less ↦
        let same : i ≡ j = omega arith in
        let at_j : slice_index_or rows j r ≡ t = get_or_from_slice_get rows j t r (slice_get-get_or rows j t in_j ∙ ap Some is_t) in
        (cc)
  ]
]

-- of a row and the rows behind it
pub tail_ascends : (x : PathRow) (xs : List PathRow) → AreAscendingRows (x ∷ xs) → AreAscendingRows xs
tail_ascends x xs up k d l = let e : suc k + 1 ≡ suc (k + 1) = omega arith in rw e at (up (suc k) d (omega arith))

pub head_before : (x : PathRow) (xs : List PathRow) → AreAscendingRows (x ∷ xs) → (y : PathRow) → Contains xs y → IsBefore x.node y.node
head_before x xs up y (k, l, is) =
    let e : 0 + (k + 1) ≡ suc k = omega arith in
    let before : IsBefore x.node (slice_index_or xs k y).node = rw e at (before_later (x ∷ xs) up 0 k y (omega arith)) in
    subst (λ (r : PathRow). IsBefore x.node r.node) is before

pub ascends_cons : (x : PathRow) (xs : List PathRow) → AreAscendingRows xs → ((y : PathRow) → Contains xs y → IsBefore x.node y.node) →
    AreAscendingRows (x ∷ xs)
ascends_cons x xs up before zero d l = before (slice_index_or xs 0 d) (Contains-get_or xs 0 d (omega arith))
ascends_cons x xs up before (suc k) d l = let e : suc k + 1 ≡ suc (k + 1) = omega arith in rw e (up k d (omega arith))
