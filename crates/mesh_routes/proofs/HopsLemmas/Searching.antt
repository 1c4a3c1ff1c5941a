-- The search for the route to a node, and for the longest prefix.
use Rattle.mesh_routes.proofs.Common.{◌≡◌, ◌≢◌, ℕ, ◌+◌, ◌-◌, ◌*◌, ◌/◌, ◌^◌, ◌<◌, ◌≤◌, inl, inr, sym, ◌∙◌, ap, subst, arith, List, [], ◌∷◌, length, Result, Ok, Err, slice_index_or, true, false, Contains, IfOk, IfErr, common_steps, AllPairs, HoldsAt, is_lt, Ordering, Less, Equal, Greater, cases_Bool, cases_lt, tied_itself, searchable_from_sorted, slice_get_within, slice_get-get_or, get_or_from_slice_get, Addr4, NetAddr, Route, IsBefore, net_cmp, net_total, net_exact, net_less, same_net, Holds, before_trans, not_before_itself}
use Rattle.std.specs.List.Sorted.{IsSortedBy, IsSearchInRange, IsBinarySearchResult}
use Rattle.mesh_routes.specs.Hops.NextHop.{IsPlaceOf, IsLongestAt}

pub is_less : (o : Ordering) → is_lt o ≡ true → o ≡ Less
is_less o e = grind (arith, common_steps)

-- what stands before is not less
pub not_less : (a b : NetAddr) → IsBefore a b → is_lt (net_cmp b a) ≡ false
not_less a b before = grind (arith, common_steps, cases_Bool, not_before_itself, before_trans, net_less, is_less)

module _ (rows : List Route) (pairs : AllPairs (λ r t. IsBefore r.dest t.dest) rows) (node : NetAddr) where
  sorted : IsSortedBy (λ (a b : Route). is_lt (net_cmp a.dest b.dest)) rows
  sorted k d from to = not_less (slice_index_or rows k d).dest (slice_index_or rows (k + 1) d).dest (pairs k (k + 1) d (omega arith) to)

  is_equal_at : (r : Route) → r.dest ≡ node → net_cmp r.dest node ≡ Equal
  is_equal_at r e = subst (λ (n : NetAddr). net_cmp r.dest n ≡ Equal) e (tied_itself net_total r.dest)

  pub found_at : (res : Result ℕ ℕ) → IsSearchInRange res (length rows) → IsBinarySearchResult (λ (y : Route). net_cmp y.dest node) rows res → IfOk res (IsPlaceOf rows node)
  found_at (Err i) bound h = tt
  found_at (Ok k) bound h = first rows k bound h
    where
      first : (list : List Route) (k : ℕ) → k < length list → HoldsAt (λ (y : Route). net_cmp y.dest node ≡ Equal) list k → IsPlaceOf list node k
      first [] k l h = absurd (omega arith)
      first (x ∷ xs) k l h =
          let r : Route = slice_index_or (x ∷ xs) k x in
          (r, slice_get-get_or (x ∷ xs) k x l, net_exact r.dest node (h x))

  pub absent : (res : Result ℕ ℕ) → IsBinarySearchResult (λ (y : Route). net_cmp y.dest node) rows res → IfErr res (λ _. (r : Route) → Contains rows r → r.dest ≢ node)
  absent (Ok k) h = tt
  absent (Err i) h = λ r has e. none_there r has e
    where
      none_there : (r : Route) → Contains rows r → r.dest ≢ node
      none_there r (k, l, is) e =
          let parts = h (searchable_from_sorted net_total (λ (y : Route). y.dest) rows node sorted) in
          let same : net_cmp r.dest node ≡ Equal = is_equal_at r e in
          elim (cases_lt k i) [
            | inl less ↦
                let below : net_cmp (slice_index_or rows k r).dest node ≡ Less = parts.0 k r (omega arith) less in
                let mine : net_cmp r.dest node ≡ Less = subst (λ (x : Route). net_cmp x.dest node ≡ Less) is below in
                let b : Less ≡ Equal = sym mine ∙ same in
                absurd (cc)
            | inr more ↦
                let above : net_cmp (slice_index_or rows k r).dest node ≡ Greater = parts.1 k r more l in
                let mine : net_cmp r.dest node ≡ Greater = subst (λ (x : Route). net_cmp x.dest node ≡ Greater) is above in
                let b : Greater ≡ Equal = sym mine ∙ same in
                absurd (cc)
          ]

-- The prefixes from the longest on

-- no route has the address by a prefix above the bound
abbrev pub HasNoLonger : List Route → Addr4 → ℕ → Type 0
HasNoLonger routes a less = (r : Route) → Contains routes r → Holds r.dest a → r.dest.prefix + less ≤ 32

-- a network of that prefix that has the address is the address with the further bits cleared
is_that : (net of : NetAddr) (a : Addr4) (p : ℕ) → net.prefix ≡ p → of.prefix ≡ p → of.addr.0 ≡ a.0 / 2 ^ (32 - p) * 2 ^ (32 - p) → Holds net a → net ≡ of
is_that net of a p is_p of_p cleared holds = grind (arith, common_steps, same_net)

pub no_longer_more : (routes : List Route) (a : Addr4) (less : ℕ) (of : NetAddr) → less < 33 → of.prefix ≡ 32 - less → of.addr.0 ≡ a.0 / 2 ^ (32 - (32 - less)) * 2 ^ (32 - (32 - less)) →
    ((r : Route) → Contains routes r → r.dest ≢ of) → HasNoLonger routes a less → HasNoLonger routes a (less + 1)
no_longer_more routes a less of low prefix cleared none before r has holds =
    let upto : r.dest.prefix + less ≤ 32 = before r has holds in
    elim (cases_lt r.dest.prefix (32 - less)) [
      | inl shorter ↦ omega arith
      | inr longer ↦
          let at : r.dest.prefix ≡ 32 - less = omega arith in
          absurd (none r has (is_that r.dest of a (32 - less) at prefix cleared holds))
    ]

pub longest_at : (routes : List Route) (a : Addr4) (less : ℕ) (of : NetAddr) (k : ℕ) → less < 33 → of.prefix ≡ 32 - less → of.addr.0 ≡ a.0 / 2 ^ (32 - (32 - less)) * 2 ^ (32 - (32 - less)) →
    IsPlaceOf routes of k → HasNoLonger routes a less → IsLongestAt routes a k
longest_at routes a less of k low prefix cleared (r, at, is) before =
    let mine : r.dest.prefix ≡ 32 - less = ap (λ (n : NetAddr). n.prefix) is ∙ prefix in
    let number : r.dest.addr.0 ≡ a.0 / 2 ^ (32 - (32 - less)) * 2 ^ (32 - (32 - less)) = ap (λ (n : NetAddr). n.addr.0) is ∙ cleared in
    let holds : Holds r.dest a = subst (λ (n : ℕ). a.0 / 2 ^ (32 - n) * 2 ^ (32 - n) ≡ r.dest.addr.0) (sym mine) (sym number) in
    (r, at, record { stands = (k, slice_get_within routes k r at, get_or_from_slice_get routes k r r at); holds = holds; longest = λ t has holds_t. omega (arith, before t has holds_t) })
