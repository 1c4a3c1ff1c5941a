-- Walks over the places of a list, and what they gather.
use Rattle.mesh_hello.proofs.Common.{◌≡◌, ℕ, ◌+◌, ◌<◌, ◌≤◌, ◌⊎◌, ◌↔◌, inl, inr, refl, sym, ◌∙◌, ap, subst, arith, List, [], ◌∷◌, ◌++◌, length, take, Contains, slice_get, get_or, Some, Bool, true, common_steps, IsEquivalence, keys_of, cases_eq, append_assoc, take_more, take_all, Contains-append_cases, Contains-append_left, Contains-append_right, Contains-push, Contains-push_cases, slice_get_within, get_or_from_slice_get, slice_get_cases, slice_get_read, place_from_lookup, lookup_from_place, Base, find, HasDistinctKeys, Gathers}

-- some element below a place has the property
abbrev pub SomeBelow : {E : Type 0} → List E → ℕ → (E → Type 0) → Type 0
SomeBelow {E} xs n P = (k : ℕ) × (e : E) × (k < n) × (slice_get xs k ≡ Some e) × P e

-- one more element at the end of what is taken
pub taken_more : {E : Type 0} (xs : List E) (k : ℕ) (e : E) → slice_get xs k ≡ Some e → take (k + 1) xs ≡ take k xs ++ e ∷ []
taken_more xs k e at =
    take_more xs k e (slice_get_within xs k e at) ∙ ap (λ x. take k xs ++ x ∷ []) (get_or_from_slice_get xs k e e at)

module _ {E : Type 0} (xs : List E) (P : E → Type 0) where
  pub below_later : (n : ℕ) → SomeBelow xs n P → SomeBelow xs (n + 1) P
  below_later n (k, e, lt, at, has) = (k, e, omega (arith, lt), at, has)

  pub below_here : (n : ℕ) (e : E) → slice_get xs n ≡ Some e → P e → SomeBelow xs (n + 1) P
  below_here n e at has = (n, e, omega arith, at, has)

  pub below_cases : (n : ℕ) (e : E) → slice_get xs n ≡ Some e → SomeBelow xs (n + 1) P → SomeBelow xs n P ⊎ P e
  below_cases n e at (k, x, lt, stands, has) = grind (arith, common_steps, cases_eq, slice_get)

-- a step that adds what the element at the place gives
pub gathers_more : {E A : Type 0} (xs : List E) (P : E → A → Type 0) (n : ℕ) (e : E) (old new : List A) → slice_get xs n ≡ Some e →
    ((a : A) → Contains old a ↔ SomeBelow xs n (λ x. P x a)) → Gathers old new (P e) → (a : A) → Contains new a ↔ SomeBelow xs (n + 1) (λ x. P x a)
gathers_more xs P n e old new at so_far adds a = (
  λ c. elim ((adds a).0 c) [ inl h ↦ below_later xs (λ x. P x a) n ((so_far a).0 h) | inr h ↦ below_here xs (λ x. P x a) n e at h ],
  λ s. (adds a).1 (elim (below_cases xs (λ x. P x a) n e at s) [ inl h ↦ inl ((so_far a).1 h) | inr h ↦ inr h ]),
)

-- an element that is at a place is one of the list
pub below_contains : {E : Type 0} (xs : List E) (P : E → Type 0) → SomeBelow xs (length xs) P ↔ ((e : E) × Contains xs e × P e)
below_contains xs P = grind (arith, common_steps, get_or_from_slice_get, slice_get_cases, get_or)

module _ {K V : Type 0} {eq : K → K → Bool} (equiv : IsEquivalence eq) (exact : (k l : K) → eq k l ≡ true → k ≡ l) (base : Base K V) (P : K × (V × ℕ) → Type 0) where
  -- what stands at a place is found by its key
  pub found_below : HasDistinctKeys eq base → SomeBelow base (length base) P → (key : K) × (e : V × ℕ) × (find eq base key ≡ Some e) × P (key, e)
  found_below distinct (k, e, lt, at, has) = (e.0, e.1, lookup_from_place equiv base k e.0 e.1 distinct at, has)

  -- and the other way round
  pub below_found : (key : K) (e : V × ℕ) → find eq base key ≡ Some e → P (key, e) → SomeBelow base (length base) P
  below_found key e is has =
      let (k, l, at, same) = place_from_lookup (eq key) base e is in
      (k, (l, e), slice_get_within base k (l, e) at, at, subst (λ (x : K). P (x, e)) (exact key l same) has)

-- keys, place by place
pub keys_more : {K V : Type 0} (base : Base K V) (k : ℕ) (key : K) (e : V × ℕ) → slice_get base k ≡ Some (key, e) → keys_of (take (k + 1) base) ≡ keys_of (take k base) ++ key ∷ []
keys_more base k key e at = ap (λ es. keys_of es) (taken_more base k (key, e) at) ∙ keys-append (take k base) key e
  where
    keys-append : {K V : Type 0} (base : Base K V) (key : K) (e : V × ℕ) → keys_of (base ++ (key, e) ∷ []) ≡ keys_of base ++ key ∷ []
    keys-append [] key e = refl
    keys-append (x ∷ xs) key e = ap (λ ks. x.0 ∷ ks) (keys-append xs key e)

pub keys_all : {K V : Type 0} (base : Base K V) (k : ℕ) → length base ≤ k → keys_of (take k base) ≡ keys_of base
keys_all base k past = ap (λ es. keys_of es) (take_all k base past)

-- Lists that grow

-- what is put at the end is added, where the condition holds
pub adds_where : {A Q : Type 0} (old new more : List A) → new ≡ old ++ more → Q → Gathers old new (λ a. Q × Contains more a)
adds_where old new more is q a = (
  λ c. elim (Contains-append_cases old more a (subst (λ xs. Contains xs a) is c)) [ inl h ↦ inl h | inr h ↦ inr (q, h) ],
  λ h. subst (λ xs. Contains xs a) (sym is) (elim h [ inl c ↦ Contains-append_left old more a c | inr c ↦ Contains-append_right old more a c.1 ]),
)

-- nothing is added where nothing has the property
pub adds_nothing : {A : Type 0} (old new : List A) (P : A → Type 0) → new ≡ old → ((a : A) → P a → ⊥) → Gathers old new P
adds_nothing old new P is none a = (λ c. inl (subst (λ xs. Contains xs a) is c), λ h. elim h [ inl c ↦ subst (λ xs. Contains xs a) (sym is) c | inr p ↦ absurd (none a p) ])

-- one element is added
pub adds_one : {A : Type 0} (old new : List A) (P : A → Type 0) (x : A) → new ≡ old ++ x ∷ [] → P x → ((a : A) → P a → x ≡ a) → Gathers old new P
adds_one old new P x is has only a = (
  λ c. elim (Contains-push_cases old x a (subst (λ xs. Contains xs a) is c)) [ inl h ↦ inl h | inr same ↦ inr (subst P same has) ],
  λ h. subst (λ xs. Contains xs a) (sym is) (elim h [
    | inl c ↦ Contains-append_left old (x ∷ []) a c
    | inr p ↦ subst (λ y. Contains (old ++ x ∷ []) y) (only a p) (Contains-push old x)
  ]),
)

-- a step of a walk that adds to what stood before it
pub adds_more : {E A : Type 0} (xs : List E) (P : E → A → Type 0) (n : ℕ) (e : E) (first old new : List A) → slice_get xs n ≡ Some e →
    Gathers first old (λ a. SomeBelow xs n (λ x. P x a)) → Gathers old new (P e) → Gathers first new (λ a. SomeBelow xs (n + 1) (λ x. P x a))
adds_more xs P n e first old new at so_far adds a = (
  λ c. elim ((adds a).0 c) [
    | inl h ↦ elim ((so_far a).0 h) [ inl f ↦ inl f | inr s ↦ inr (below_later xs (λ x. P x a) n s) ]
    | inr h ↦ inr (below_here xs (λ x. P x a) n e at h)
  ],
  λ h. (adds a).1 (elim h [
    | inl f ↦ inl ((so_far a).1 (inl f))
    | inr s ↦ elim (below_cases xs (λ x. P x a) n e at s) [ inl b ↦ inl ((so_far a).1 (inr b)) | inr p ↦ inr p ]
  ]),
)

-- what is added, said otherwise
pub adds_so : {A : Type 0} (old new : List A) (P Q : A → Type 0) → ((a : A) → P a ↔ Q a) → Gathers old new P → Gathers old new Q
adds_so old new P Q iff adds a = (
  λ c. elim ((adds a).0 c) [ inl h ↦ inl h | inr p ↦ inr ((iff a).0 p) ],
  λ h. (adds a).1 (elim h [ inl c ↦ inl c | inr q ↦ inr ((iff a).1 q) ]),
)

-- an item of a walk stands at its place
pub item_at : {E : Type 0} (xs : List E) (k : ℕ) (x : E) → k < length xs → x ≡ get_or xs k x → slice_get xs k ≡ Some x
item_at xs k x lt is = slice_get_read xs (length xs) k x refl lt is

pub iff_on : {A B C : Type 0} → (A ↔ B) → (B ↔ C) → A ↔ C
iff_on f g = ((λ a. g.0 (f.0 a)), (λ c. f.1 (g.1 c)))

-- all of a list is added
pub adds_all : {A : Type 0} (old new more : List A) → new ≡ old ++ more → Gathers old new (λ a. Contains more a)
adds_all old new more is a = (
  λ c. Contains-append_cases old more a (subst (λ xs. Contains xs a) is c),
  λ h. subst (λ xs. Contains xs a) (sym is) (elim h [ inl c ↦ Contains-append_left old more a c | inr c ↦ Contains-append_right old more a c ]),
)

-- the next key is put after those of the places before
pub keys_put : {K V : Type 0} (base : Base K V) (k : ℕ) (key : K) (e : V × ℕ) (first list new : List K) → slice_get base k ≡ Some (key, e) → list ≡ first ++ keys_of (take k base) → new ≡ list ++ key ∷ [] →
    new ≡ first ++ keys_of (take (k + 1) base)
keys_put base k key e first list new at so_far is =
    is ∙ (ap (λ ks. ks ++ key ∷ []) so_far ∙ (append_assoc first (keys_of (take k base)) (key ∷ []) ∙ ap (λ ks. first ++ ks) (sym (keys_more base k key e at))))
