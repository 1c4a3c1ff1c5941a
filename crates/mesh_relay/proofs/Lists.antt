-- Elements of lists.
use Rattle.mesh_relay.proofs.Common.{arith, common_steps, ◌≡◌, ◌⊎◌, Bool, true, false, cond, List, [], ◌∷◌, Option, Some, None, refl, sym, subst, inl, inr, Contains, filter_map, dedup, dedup_from, cons_option, contains_head, contains_none, contains_cases, contains_tail, option_cases}

-- Elements that pass a test

-- What a function gives for elements

option_first : {X : Type 0} (o : Option X) (x : X) (rest : List X) → o ≡ Some x → Contains (cons_option o rest) x
option_first o x rest e = subst (λ p. Contains (cons_option p rest) x) (sym e) (contains_head x rest)

option_later : {X : Type 0} (o : Option X) (x : X) (rest : List X) → Contains rest x → Contains (cons_option o rest) x
option_later None x rest w = w
option_later (Some y) x rest w = contains_tail y rest x w

pub given_by : {X Y : Type 0} (h : X → Option Y) (xs : List X) (y : Y) → Contains (filter_map h xs) y → (x : X) × Contains xs x × (h x ≡ Some y)
given_by h [] y w = absurd (contains_none y w)
given_by h (x ∷ xs) y w = elim (option_cases (h x) y (filter_map h xs) w) [
  | inl e ↦ (x, contains_head x xs, e)
  | inr v ↦ let r = given_by h xs y v in (r.0, contains_tail x xs r.0 r.1, r.2)
]

pub gives : {X Y : Type 0} (h : X → Option Y) (xs : List X) (x : X) (y : Y) → Contains xs x → h x ≡ Some y → Contains (filter_map h xs) y
gives h [] x y w e = absurd (contains_none x w)
gives h (z ∷ xs) x y w e = elim (contains_cases z xs x w) [
  | inl at ↦ option_first (h z) y (filter_map h xs) (subst (λ v. h v ≡ Some y) (sym at) e)
  | inr later ↦ option_later (h z) y (filter_map h xs) (gives h xs x y later e)
]

-- Neighbours in a list that a test joins

dedup_first_cons : {X : Type 0} (b : Bool) (k : X) (a c : List X) → Contains a k → Contains (cond b a (k ∷ c)) k
dedup_first_cons true k a c h = h
dedup_first_cons false k a c h = contains_head k c

pub dedup_first : {X : Type 0} (same : X → X → Bool) (k : X) (xs : List X) → Contains (dedup_from same k xs) k
dedup_first same k [] = contains_head k []
dedup_first same k (x ∷ xs) = dedup_first_cons (same x k) k (dedup_from same k xs) (dedup_from same x xs) (dedup_first same k xs)

pub dedup_cases : {X : Type 0} (b : Bool) (k w : X) (a c : List X) → Contains (cond b a (k ∷ c)) w →
    ((b ≡ true) × Contains a w) ⊎ ((b ≡ false) × ((k ≡ w) ⊎ Contains c w))
dedup_cases b k w a c h = grind (arith, common_steps, contains_cases)

-- what is kept was there
pub dedup_within : {X : Type 0} (same : X → X → Bool) (k : X) (xs : List X) (w : X) → Contains (dedup_from same k xs) w → Contains (k ∷ xs) w
dedup_within same k [] w h = h
dedup_within same k (x ∷ xs) w h = elim (dedup_cases (same x k) k w (dedup_from same k xs) (dedup_from same x xs) h) [
  | inl a ↦ elim (contains_cases k xs w (dedup_within same k xs w a.1)) [
    | inl e ↦ subst (λ z. Contains (k ∷ x ∷ xs) z) e (contains_head k (x ∷ xs))
    | inr v ↦ contains_tail k (x ∷ xs) w (contains_tail x xs w v)
  ]
  | inr c ↦ elim c.1 [
    | inl e ↦ subst (λ z. Contains (k ∷ x ∷ xs) z) e (contains_head k (x ∷ xs))
    | inr v ↦ contains_tail k (x ∷ xs) w (dedup_within same x xs w v)
  ]
]

-- what was there is kept, or joined to what is kept
abbrev pub KeptOrJoined : {X : Type 0} (same : X → X → Bool) → List X → X → Type 0
KeptOrJoined {X} same kept v = (w : X) × Contains kept w × ((w ≡ v) ⊎ (same v w ≡ true))

joined_cons : {X : Type 0} (same : X → X → Bool) (b : Bool) (k x v : X) (xs a c : List X) → same x k ≡ b → Contains a k → Contains (k ∷ x ∷ xs) v →
    (Contains (k ∷ xs) v → KeptOrJoined same a v) → (Contains (x ∷ xs) v → KeptOrJoined same c v) → KeptOrJoined same (cond b a (k ∷ c)) v
joined_cons same true k x v xs a c e first h on begins = elim (contains_cases k (x ∷ xs) v h) [
  | inl f ↦ (k, first, inl f)
  | inr later ↦ elim (contains_cases x xs v later) [
    | inl f ↦ (k, first, inr (subst (λ z. same z k ≡ true) f e))
    | inr last ↦ on (contains_tail k xs v last)
  ]
]
joined_cons same false k x v xs a c e first h on begins = elim (contains_cases k (x ∷ xs) v h) [
  | inl f ↦ (k, contains_head k c, inl f)
  | inr later ↦ let r = begins later in (r.0, contains_tail k c r.0 r.1, r.2)
]

kept_or_joined : {X : Type 0} (same : X → X → Bool) (k : X) (xs : List X) (v : X) → Contains (k ∷ xs) v → KeptOrJoined same (dedup_from same k xs) v
kept_or_joined same k [] v h = elim (contains_cases k [] v h) [ inl e ↦ (k, contains_head k [], inl e) | inr w ↦ absurd (contains_none v w) ]
kept_or_joined same k (x ∷ xs) v h =
    joined_cons same (same x k) k x v xs (dedup_from same k xs) (dedup_from same x xs) refl (dedup_first same k xs) h
    (kept_or_joined same k xs v) (kept_or_joined same x xs v)

pub joined : {X : Type 0} (same : X → X → Bool) (xs : List X) (v : X) → Contains xs v → KeptOrJoined same (dedup same xs) v
joined same [] v h = absurd (contains_none v h)
joined same (x ∷ xs) v h = kept_or_joined same x xs v h

pub kept_within : {X : Type 0} (same : X → X → Bool) (xs : List X) (w : X) → Contains (dedup same xs) w → Contains xs w
kept_within same [] w h = h
kept_within same (x ∷ xs) w h = dedup_within same x xs w h
