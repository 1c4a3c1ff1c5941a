-- What is kept of a network after all entries is what they say of it.
use Rattle.mesh_wire.proofs.Common.{arith, common_steps, ◌≡◌, ℕ, ◌⊎◌, inl, inr, sym, ap, subst, true, List, [], ◌∷◌, ◌++◌, Option, Some, None, cond, cases_Bool, NetAddr, RowParts, Entry, is_of, put_said, collected, no_parts, some_equal}
use Rattle.mesh_wire.proofs.Slots.{IsMoreOf, RowIs, row_more, row_same, row_none}

-- one of the entries is so
abbrev pub AnyOf : (Entry → Type 0) → List Entry → Type 0
AnyOf P [] = ⊥
AnyOf P (e ∷ es) = P e ⊎ AnyOf P es

-- the entry is of the network
abbrev pub StandsOf : NetAddr → Entry → Type 0
StandsOf net e = is_of net e ≡ true

-- the entry says that value of the network
abbrev pub SaysOf : NetAddr → ℕ → List ℕ → Entry → Type 0
SaysOf net k x e = (is_of net e ≡ true) × (e.said ≡ Some (k, x))

-- what is kept where H says whether the network stands, and S what is said of it
abbrev pub At : Type 0 → (ℕ → List ℕ → Type 0) → Option RowParts → Type 0
At H S None = (H → ⊥) × ((k : ℕ) (x : List ℕ) → S k x → ⊥)
At H S (Some r) = H × RowIs S r

at_same : (H H' : Type 0) (S S' : ℕ → List ℕ → Type 0) (row : Option RowParts) → (H' → H) → (H → H') → ((k : ℕ) (x : List ℕ) → S' k x → S k x) → ((k : ℕ) (x : List ℕ) → S k x → S' k x) → At H S row → At H' S' row
at_same H H' S S' None back keep back_s keep_s h = (λ y. h.0 (back y), λ k x s. h.1 k x (back_s k x s))
at_same H H' S S' (Some r) back keep back_s keep_s h = (keep h.0, row_same S S' back_s keep_s r h.1)

module _ (net : NetAddr) where
  -- what is said of the network so far, and by one entry more
  abbrev With : Entry → (ℕ → List ℕ → Type 0) → ℕ → List ℕ → Type 0
  With e S k x = S k x ⊎ SaysOf net k x e

  same_said : (p q : ℕ × List ℕ) → Some p ≡ Some q → (q.0 ≡ p.0) × (q.1 ≡ p.1)
  same_said p q e = let f = sym (some_equal p q e) in (ap (λ (r : ℕ × List ℕ). r.0) f, ap (λ (r : ℕ × List ℕ). r.1) f)

  is_more : (e : Entry) (S : ℕ → List ℕ → Type 0) (k : ℕ) (x : List ℕ) → is_of net e ≡ true → e.said ≡ Some (k, x) → IsMoreOf S (With e S) k x
  is_more e S k x of is = grind (arith, common_steps, same_said)

  -- an entry of the network
  put_is : (e : Entry) (said : Option (ℕ × List ℕ)) (H : Type 0) (S : ℕ → List ℕ → Type 0) (row : Option RowParts) → e.said ≡ said → is_of net e ≡ true → At H S row → At (H ⊎ StandsOf net e) (With e S) (Some (put_said said row))
  put_is e None H S None is of h = (inr of, row_none (With e S) (λ k x u. elim u [ inl s ↦ h.1 k x s | inr g ↦ let f : None ≡ Some (k, x) = subst (λ (o : Option (ℕ × List ℕ)). o ≡ Some (k, x)) is g.1 in cc ]))
  put_is e None H S (Some r) is of h = (inr of, row_same S (With e S) (λ k x u. elim u [ inl s ↦ s | inr g ↦ let f : None ≡ Some (k, x) = subst (λ (o : Option (ℕ × List ℕ)). o ≡ Some (k, x)) is g.1 in absurd (cc) ]) (λ k x s. inl s) r h.1)
  put_is e (Some (k, x)) H S None is of h = (inr of, row_more S (With e S) k x no_parts (is_more e S k x of is) (row_none S h.1))
  put_is e (Some (k, x)) H S (Some r) is of h = (inr of, row_more S (With e S) k x r (is_more e S k x of is) h.1)

  -- any entry
  step_is : (e : Entry) (H : Type 0) (S : ℕ → List ℕ → Type 0) (row : Option RowParts) → At H S row → At (H ⊎ StandsOf net e) (With e S) (cond (is_of net e) (Some (put_said e.said row)) row)
  step_is e H S row h = grind (arith, common_steps, cases_Bool, put_is, at_same)

  all_is : (es : List Entry) (H : Type 0) (S : ℕ → List ℕ → Type 0) (row : Option RowParts) → At H S row → At (H ⊎ AnyOf (StandsOf net) es) (λ k x. S k x ⊎ AnyOf (SaysOf net k x) es) (collected net es row)
  all_is [] H S row h = at_same H (H ⊎ ⊥) S (λ k x. S k x ⊎ ⊥) row (λ u. elim u [ inl y ↦ y | inr n ↦ absurd n ]) (λ y. inl y) (λ k x u. elim u [ inl s ↦ s | inr n ↦ absurd n ]) (λ k x s. inl s) h
  all_is (e ∷ es) H S row h = grind (arith, common_steps, at_same, collected, step_is, (all_is es (H ⊎ StandsOf net e) (With e S) (cond (is_of net e) (Some (put_said e.said row)) row) (step_is e H S row h)))

  -- from nothing on
  pub collected_is : (es : List Entry) → At (AnyOf (StandsOf net) es) (λ k x. AnyOf (SaysOf net k x) es) (collected net es None)
  collected_is es = at_same (⊥ ⊎ AnyOf (StandsOf net) es) (AnyOf (StandsOf net) es) (λ k x. ⊥ ⊎ AnyOf (SaysOf net k x) es) (λ k x. AnyOf (SaysOf net k x) es) (collected net es None)
      (λ y. inr y) (λ u. elim u [ inl n ↦ absurd n | inr y ↦ y ]) (λ k x s. inr s) (λ k x u. elim u [ inl n ↦ absurd n | inr s ↦ s ])
      (all_is es ⊥ (λ k x. ⊥) None (λ n. n, λ k x n. n))

-- ---- one of several lists of entries

pub any_front : (P : Entry → Type 0) (xs ys : List Entry) → AnyOf P xs → AnyOf P (xs ++ ys)
any_front P [] ys h = absurd h
any_front P (x ∷ xs) ys (inl h) = inl h
any_front P (x ∷ xs) ys (inr h) = inr (any_front P xs ys h)

pub any_back : (P : Entry → Type 0) (xs ys : List Entry) → AnyOf P ys → AnyOf P (xs ++ ys)
any_back P [] ys h = h
any_back P (x ∷ xs) ys h = inr (any_back P xs ys h)

pub any_either : (P : Entry → Type 0) (xs ys : List Entry) → AnyOf P (xs ++ ys) → AnyOf P xs ⊎ AnyOf P ys
any_either P [] ys h = inr h
any_either P (x ∷ xs) ys (inl h) = inl (inl h)
any_either P (x ∷ xs) ys (inr h) = elim (any_either P xs ys h) [ inl g ↦ inl (inr g) | inr g ↦ inr g ]
