-- A walk over the keys of an originator, for those that are outdated.
use Rattle.mesh_topo.proofs.Common.{common_steps, not-true, ◌≡◌, ℕ, ◌≤◌, Bool, true, false, not, nat_eq, ◌&&◌, ◌||◌, List, [], ◌∷◌, ◌++◌, sym, ap, subst, ◌∙◌, arith, is_some, Option, list_any, filter, AllByRecursion, IsStrictlySortedBy, is_gt, is_le, is_eq, Ordering, IsEquivalence, BTreeSet, contains, sorted_head, sorted_tail, Addr4, Base, find, addr_eq, has_other_number, is_outdated, any_filter, same_addr}

any_last : {K : Type 0} (p : K → Bool) (xs : List K) (k : K) → list_any p (xs ++ k ∷ []) ≡ (list_any p xs || p k)
any_last p [] k = grind (arith, common_steps)
any_last p (x ∷ xs) k = grind (arith, common_steps, any_last p xs k)

-- one that is found and one that isn't
found_more : (o a e r : Bool) → (e ≡ true → o ≡ true) → o ≡ (a || (o && (e || r))) → o ≡ ((a || e) || (o && r))
found_more o a e r f h = grind (arith, common_steps)

passed_more : (o a e r : Bool) → (e ≡ true → o ≡ false) → o ≡ (a || (o && (e || r))) → o ≡ (a || (o && r))
passed_more o a e r f h = grind (arith, common_steps)

none_more : (o a r : Bool) → (o ≡ true → r ≡ true → ⊥) → o ≡ (a || (o && r)) → a ≡ o
none_more o a r f h = grind (arith, common_steps)

-- an element that is found there has what all have
any_has : {K : Type 0} {eq : K → K → Bool} (exact : (a b : K) → eq a b ≡ true → a ≡ b) (P : K → Type 0) (q : K) (xs : List K) → AllByRecursion P xs → list_any (eq q) xs ≡ true → P q
any_has exact P q [] all h = absurd cc
any_has {K} {eq} exact P q (x ∷ xs) all h = grind (arith, common_steps, (any_has {eq = eq} exact P q xs all.1))

pub all_filter : {K : Type 0} (P : K → Type 0) (test : K → Bool) (xs : List K) → ((x : K) → test x ≡ true → P x) → AllByRecursion P (filter test xs)
all_filter P test [] each = tt
all_filter {K} P test (x ∷ xs) each = grind (arith, common_steps, all_filter P test xs each)

module _ {K : Type 0} {eq : K → K → Bool} (laws : IsEquivalence eq) (exact : (a b : K) → eq a b ≡ true → a ≡ b) (out : K → Bool) where
  -- each key that is outdated is found, or still to come
  abbrev pub Walks : List K → List K → Type 0
  Walks found rest = (q : K) → out q ≡ (list_any (eq q) found || (out q && list_any (eq q) rest))

  pub walk_begins : (test : K → Bool) (xs found rest : List K) → found ≡ [] → rest ≡ filter test xs → ((q : K) → out q ≡ true → (list_any (eq q) xs ≡ true) × (test q ≡ true)) → Walks found rest
  walk_begins test xs found rest none is each q = grind (arith, common_steps, any_filter)

  pub walk_finds : (found all rest : List K) (k : K) → all ≡ k ∷ rest → out k ≡ true → Walks found all → Walks (found ++ k ∷ []) rest
  walk_finds found all rest k steps is walks q = grind (arith, common_steps, found_more, any_last)

  pub walk_passes : (found all rest : List K) (k : K) → all ≡ k ∷ rest → out k ≡ false → Walks found all → Walks found rest
  walk_passes found all rest k steps is walks q = grind (arith, common_steps, passed_more)

  pub walk_stops : (cmp : K → K → Ordering) (origin : K → Addr4) (originator : Addr4) → ((a b : K) → is_gt (cmp a b) ≡ false → (origin a).0 ≤ (origin b).0) → ((q : K) → out q ≡ true → origin q ≡ originator)
      → (found all rest : List K) (k : K) → all ≡ k ∷ rest → AllByRecursion (λ x. originator.0 ≤ (origin x).0) all → (addr_eq (origin k) originator ≡ false) → IsStrictlySortedBy cmp all → Walks found all → (q : K) → list_any (eq q) found ≡ out q
  walk_stops cmp origin originator by_origin of found all rest k steps from other sorted walks q = grind (arith, common_steps, none_more, any_has, sorted_head)

-- what follows the first of a list
pub rest_sorted : {K : Type 0} (cmp : K → K → Ordering) (all rest : List K) (k : K) → all ≡ k ∷ rest → IsStrictlySortedBy cmp all → IsStrictlySortedBy cmp rest
rest_sorted cmp all rest k steps sorted = sorted_tail cmp k rest (subst (IsStrictlySortedBy cmp) steps sorted)

pub rest_all : {K : Type 0} (P : K → Type 0) (all rest : List K) (k : K) → all ≡ k ∷ rest → AllByRecursion P all → AllByRecursion P rest
rest_all P all rest k steps each = (subst (AllByRecursion P) steps each).1

-- what is in a range that has a least key alone
pub in_range : (o : Ordering) → is_gt o ≡ false → (is_le o && not false) ≡ true
in_range o h = grind (arith, common_steps)

pub of_range : (o : Ordering) → (is_le o && not false) ≡ true → is_gt o ≡ false
of_range o h = grind (arith, common_steps)

-- what is outdated is a tuple of the originator
module _ {K V : Type 0} (eq : K → K → Bool) (originator : Addr4) (ansn : ℕ) (from : K → Addr4) (number : V → ℕ) (base : Base K V) (q : K) where
  abbrev out_at : Bool → Option (V × ℕ) → Bool
  out_at of entry = of && has_other_number ansn number entry

  stands_so : (of : Bool) (entry : Option (V × ℕ)) → out_at of entry ≡ true → (of ≡ true) × (is_some entry ≡ true)
  stands_so of entry h = grind (arith, common_steps)

  pub outdated_of : is_outdated eq originator ansn from number base q ≡ true → from q ≡ originator
  outdated_of h = same_addr (from q) originator (stands_so (addr_eq (from q) originator) (find eq base q) h).0

  pub outdated_there : is_outdated eq originator ansn from number base q ≡ true → is_some (find eq base q) ≡ true
  outdated_there h = (stands_so (addr_eq (from q) originator) (find eq base q) h).1

  -- it is so by the tests of its originator and its number
  pub outdated_is : (here : Addr4) (ne other : Bool) → ne ≡ not (nat_eq here.0 originator.0) → here ≡ from q → ne ≡ false → other ≡ has_other_number ansn number (find eq base q) → is_outdated eq originator ansn from number base q ≡ other
  outdated_is here ne other is of same by = grind (arith, common_steps, nat_eq)

  pub of_another : (here : Addr4) (ne : Bool) → ne ≡ not (nat_eq here.0 originator.0) → here ≡ from q → ne ≡ true → addr_eq (from q) originator ≡ false
  of_another here ne is of apart = not-true (addr_eq (from q) originator) (sym (is ∙ ap (λ (a : Addr4). not (nat_eq a.0 originator.0)) of) ∙ apart)

-- a key of an ordered set, by the keys' own test
pub any_key : {K : Type 0} (eq : K → K → Bool) (cmp : K → K → Ordering) (agree : (x y : K) → eq x y ≡ is_eq (cmp x y)) (keys : BTreeSet K) (q : K) → contains cmp keys q ≡ list_any (eq q) keys.keys
any_key {K} eq cmp agree keys q = grind (arith, common_steps)
