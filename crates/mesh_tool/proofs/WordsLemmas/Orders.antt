-- Lists in any order.
use Rattle.mesh_tool.proofs.Common.{arith, common_steps, ◌≡◌, ◌⊎◌, inl, inr, List, [], ◌∷◌, ◌++◌, refl, sym, ap, subst, ◌∙◌, append_assoc, InAnyOrder}
use Rattle.mesh_atoms.proofs.Lists.{append_none as no_parts}

-- ---- the orders of three

one_part : {A : Type 0} (front back : List A) (p : A) → front ++ back ≡ p ∷ [] → ((front ≡ []) × (back ≡ p ∷ [])) ⊎ ((front ≡ p ∷ []) × (back ≡ []))
one_part [] back p e = inl (refl, e)
one_part (x ∷ front) back p e = grind (arith, common_steps, no_parts)

one_order : {A : Type 0} (a : A) (ys : List A) → InAnyOrder (a ∷ []) ys → ys ≡ a ∷ []
one_order a ys (front, back, is, none) = let both = no_parts front back none in is ∙ rw (both.0, both.1) refl

put_in : {A : Type 0} (P : List A → Type 0) (a p q : A) (front back ys : List A) → ys ≡ front ++ a ∷ back → front ++ back ≡ p ∷ q ∷ []
    → P (a ∷ p ∷ q ∷ []) → P (p ∷ a ∷ q ∷ []) → P (p ∷ q ∷ a ∷ []) → P ys
put_in P a p q [] back ys is e first second third = subst P (sym (is ∙ ap (λ l. a ∷ l) e)) first
put_in P a p q (f ∷ front) back ys is e first second third = grind (arith, common_steps, one_part)

pub in_each_order : {A : Type 0} (P : List A → Type 0) (a b c : A) (ys : List A) → P (a ∷ b ∷ c ∷ []) → P (b ∷ a ∷ c ∷ []) → P (b ∷ c ∷ a ∷ []) → P (a ∷ c ∷ b ∷ [])
    → P (c ∷ a ∷ b ∷ []) → P (c ∷ b ∷ a ∷ []) → InAnyOrder (a ∷ b ∷ c ∷ []) ys → P ys
in_each_order P a b c ys abc bac bca acb cab cba (front, back, is, (front', back', is', rest)) =
    elim (one_part front' back' c (one_order c (front' ++ back') rest)) [
      | inl (n, k) ↦ put_in P a b c front back ys is (is' ∙ rw (n, k) refl) abc bac bca
      | inr (n, k) ↦ put_in P a c b front back ys is (is' ∙ rw (n, k) refl) acb cab cba
    ]

-- ---- one more in front

pub later : {A : Type 0} (xs : List A) (p : A) (zs ys : List A) → InAnyOrder (xs ++ zs) ys → InAnyOrder (xs ++ p ∷ zs) (p ∷ ys)
later [] p zs ys any = ([], ys, refl, any)
later (x ∷ xs) p zs ys (front, back, is, rest) = (p ∷ front, back, ap (λ l. p ∷ l) is, later xs p zs (front ++ back) rest)

pub last : {A : Type 0} (xs ws : List A) (p : A) (ys : List A) → InAnyOrder (xs ++ (ws ++ [])) ys → InAnyOrder (xs ++ (ws ++ p ∷ [])) (p ∷ ys)
last xs ws p ys any =
    subst (λ l. InAnyOrder l (p ∷ ys)) (append_assoc xs ws (p ∷ [])) (later (xs ++ ws) p [] ys (subst (λ l. InAnyOrder l ys) (sym (append_assoc xs ws [])) any))

-- ---- the first one taken out

pub none_left : {A : Type 0} (xs : List A) → InAnyOrder xs [] → xs ≡ []
none_left [] any = refl
none_left (x ∷ xs) ([], back, is, rest) = absurd cc
none_left (x ∷ xs) (f ∷ front, back, is, rest) = absurd cc

pub taken_out : {A : Type 0} (xs : List A) (y : A) (ys : List A) → InAnyOrder xs (y ∷ ys)
    → (front : List A) × (back : List A) × (xs ≡ front ++ y ∷ back) × InAnyOrder (front ++ back) ys
taken_out [] y ys any = let bad : ⊥ = cc in absurd bad
taken_out (x ∷ xs) y ys ([], back, is, rest) =
    let same : y ≡ x = cc in let others : ys ≡ back = cc in
    ([], xs, ap (λ z. z ∷ xs) (sym same), subst (InAnyOrder xs) (sym others) rest)
taken_out (x ∷ xs) y ys (f ∷ front, back, is, rest) =
    let same : y ≡ f = cc in let others : ys ≡ front ++ x ∷ back = cc in
    let t = taken_out xs y (front ++ back) (subst (λ z. InAnyOrder xs (z ∷ (front ++ back))) (sym same) rest) in
    (x ∷ t.0, t.1, ap (λ l. x ∷ l) t.2, (front, back, others, t.3))

-- none, or one
abbrev pub IsFew : {A : Type 0} → List A → Type 0
IsFew {A} xs = (xs ≡ []) ⊎ ((x : A) × (xs ≡ x ∷ []))

-- one of a list is that of a first part, or one of the rest
pub first_or_later : {A : Type 0} (xs rest front : List A) (y : A) (back : List A) → IsFew xs → xs ++ rest ≡ front ++ y ∷ back
    → ((xs ≡ y ∷ []) × (front ++ back ≡ rest)) ⊎ ((more : List A) × (rest ≡ more ++ y ∷ back) × (front ++ back ≡ xs ++ (more ++ back)))
first_or_later xs rest front y back (inl none) is = inr (front, ap (λ l. l ++ rest) (sym none) ∙ is, ap (λ l. l ++ (front ++ back)) (sym none))
first_or_later xs rest [] y back (inr (x, one)) is = grind (arith, common_steps)
first_or_later xs rest (f ∷ front) y back (inr (x, one)) is = grind (arith, common_steps)
