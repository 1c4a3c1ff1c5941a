-- How many tuples a base can have.
use Rattle.mesh_nhdp.proofs.Common.{common_steps, ◌≡◌, ℕ, zero, suc, ◌<◌, ◌≤◌, refl, sym, subst, arith, List, [], ◌∷◌, ◌++◌, length, Contains, slice_index_or, Option, Some, Bool, true, false, cond, IsSome, ◌||◌, IsEquivalence, keys_of, lookup, list_any, false≢true, none-some, length-keys_of, Addr4, TwoHopKey, LinkKey, Base, find, HasDistinctKeys, two_hop_eq, two_hop_equiv, cond_true as on_true}
use Rattle.std.proofs.lemmas.Map.Steps.{length-le_from_keys}

found_step : {X : Type 0} (b : Bool) (first : X) (rest : Option X) (c : Bool) → (c ≡ true → (x : X) × (rest ≡ Some x)) → (b || c) ≡ true → (x : X) × (cond b (Some first) rest ≡ Some x)
found_step true first rest c more h = (first, refl)
found_step false first rest c more h = more h

-- a key that stands is found
pub found_if_key : {K X : Type 0} (test : K → Bool) (es : List (K × X)) → list_any test (keys_of es) ≡ true → (x : X) × (lookup test es ≡ Some x)
found_if_key test [] h = absurd (false≢true h)
found_if_key {K} {X} test (e ∷ es) h = found_step (test e.0) e.1 (lookup test es) (list_any test (keys_of es)) (λ k. found_if_key test es k) h

some_is : {A : Type 0} (o : Option A) (a : A) → o ≡ Some a → IsSome o
some_is o a e = grind (arith, common_steps, none-some)

-- what is found in a part is found in the whole
pub found_left : {K X : Type 0} (test : K → Bool) (xs ys : List (K × X)) (x : X) → lookup test xs ≡ Some x → (z : X) × (lookup test (xs ++ ys) ≡ Some z)
found_left test [] ys x h = absurd (none-some x h)
found_left {K} {X} test (e ∷ es) ys x h = by_case (test e.0) (lookup test es) (lookup test (es ++ ys)) (λ k. found_left test es ys x k) h
  where
    by_case : (b : Bool) (rest all : Option X) → (rest ≡ Some x → (z : X) × (all ≡ Some z)) → cond b (Some e.1) rest ≡ Some x → (z : X) × (cond b (Some e.1) all ≡ Some z)
    by_case true rest all more h = (e.1, refl)
    by_case false rest all more h = more h

pub found_right : {K X : Type 0} (test : K → Bool) (xs ys : List (K × X)) (x : X) → lookup test ys ≡ Some x → (z : X) × (lookup test (xs ++ ys) ≡ Some z)
found_right test [] ys x h = (x, h)
found_right {K} {X} test (e ∷ es) ys x h = by_case (test e.0) (lookup test (es ++ ys)) (found_right test es ys x h)
  where
    by_case : (b : Bool) (all : Option X) → (z : X) × (all ≡ Some z) → (z : X) × (cond b (Some e.1) all ≡ Some z)
    by_case true all more = (e.1, refl)
    by_case false all more = more

-- a base whose keys all stand in another has no more entries
pub no_more : {K V : Type 0} {eq : K → K → Bool} → IsEquivalence eq → (new : Base K V) (old : Base K V) → HasDistinctKeys eq new →
    ((key : K) (e : V × ℕ) → find eq new key ≡ Some e → (f : V × ℕ) × (find eq old key ≡ Some f)) → length new ≤ length old
no_more {eq = eq} laws new old distinct stands =
    subst (λ (n : ℕ). n ≤ length old) (length-keys_of new)
    (length-le_from_keys laws (keys_of new) old distinct (λ key h. let (e, at) = found_if_key (eq key) new h in let (f, was) = stands key e at in some_is (find eq old key) f was))

-- entries at one link for these addresses
pub entries_at : {V : Type 0} → LinkKey → V → List Addr4 → Base TwoHopKey V
entries_at link value [] = []
entries_at link value (a ∷ rest) = (record { link = link; addr = a }, (value, 0)) ∷ entries_at link value rest

pub length_entries : {V : Type 0} (link : LinkKey) (value : V) (some : List Addr4) → length (entries_at link value some) ≡ length some
unfolding entries_at
length_entries link value [] = refl
length_entries link value (a ∷ rest) = let h = length_entries link value rest in omega (arith, h)

pub found_entry : {V : Type 0} (link : LinkKey) (value : V) (some : List Addr4) (a : Addr4) → Contains some a →
    (e : V × ℕ) × (find two_hop_eq (entries_at link value some) (record { link = link; addr = a }) ≡ Some e)
unfolding entries_at
found_entry link value [] a c = absurd (omega (arith, c.1))
found_entry {V} link value (b ∷ rest) a c = by_place c.0 c.1 c.2 (λ k. found_entry link value rest a k)
  where
    step : (d : Bool) (all : Option (V × ℕ)) → (e : V × ℕ) × (all ≡ Some e) → (e : V × ℕ) × (cond d (Some (value, 0)) all ≡ Some e)
    step true all more = ((value, 0), refl)
    step false all more = more

    by_place : (k : ℕ) → k < length (b ∷ rest) → slice_index_or (b ∷ rest) k a ≡ a →
        (Contains rest a → (e : V × ℕ) × (find two_hop_eq (entries_at link value rest) (record { link = link; addr = a }) ≡ Some e)) →
        (e : V × ℕ) × (find two_hop_eq (entries_at link value (b ∷ rest)) (record { link = link; addr = a }) ≡ Some e)
    by_place zero l e more = (
      (value, 0),
      on_true (two_hop_eq (record { link = link; addr = a }) (record { link = link; addr = b })) (Some (value, 0)) (find two_hop_eq (entries_at link value rest) (record { link = link; addr = a }))
          (subst (λ (x : Addr4). two_hop_eq (record { link = link; addr = a }) (record { link = link; addr = x }) ≡ true) (sym e) (two_hop_equiv.refl (record { link = link; addr = a }))),
    )
    by_place (suc k) l e more = step (two_hop_eq (record { link = link; addr = a }) (record { link = link; addr = b })) (find two_hop_eq (entries_at link value rest) (record { link = link; addr = a })) (more (k, omega (arith, l), e))
