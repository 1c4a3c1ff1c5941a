-- Texts that are laid one after the other, and those of a part of a list.
use Rattle.mesh_wire.proofs.Common.{common_steps, ◌≡◌, ℕ, zero, suc, ◌+◌, ◌-◌, ◌≤◌, List, [], ◌∷◌, ◌++◌, length, take, drop, refl, sym, ap, ◌∙◌, arith, append_assoc, length-append, ◌*◌, slice_range, Bool, true, false, cond, unwrap_or, flat_map, take-append-drop, flat_map-append, take-append_seam, AddressTlvKind, AddressRecord, is_wide, width_of, octet_pair, laid, column_text}

-- ---- lists

pub take_more : {X : Type 0} (a n : ℕ) (xs : List X) → take (a + n) xs ≡ take a xs ++ take n (drop a xs)
take_more zero n xs = let e : zero + n ≡ n = omega arith in rw e refl
take_more (suc a) n [] = grind (arith, common_steps)
take_more (suc a) n (x ∷ xs) = let e : suc a + n ≡ suc (a + n) = omega arith in rw e (ap (λ (l : List _). x ∷ l) (take_more a n xs))

-- the text between two others
seam : (before text after : List ℕ) → take (length (before ++ text) - length before) (drop (length before) (before ++ (text ++ after))) ≡ text
seam before text after = grind (arith, common_steps)

-- ---- texts of a list

module _ {X : Type 0} (f : X → List ℕ) where
  laid_more : (a b : ℕ) (xs : List X) → a ≤ b → flat_map f (take b xs) ≡ flat_map f (take a xs) ++ flat_map f (slice_range xs a b)
  laid_more a b xs le =
      let e : a + (b - a) ≡ b = omega arith in
      sym (ap (λ (n : ℕ). flat_map f (take n xs)) e) ∙ ap (flat_map f) (take_more a (b - a) xs) ∙ flat_map-append f (take a xs) (take (b - a) (drop a xs))

  laid_all : (b : ℕ) (xs : List X) → flat_map f xs ≡ flat_map f (take b xs) ++ flat_map f (drop b xs)
  laid_all b xs = ap (flat_map f) (sym (take-append-drop b xs)) ∙ flat_map-append f (take b xs) (drop b xs)

  -- the text of a part stands between those of the items before it and of the items up to its end
  pub between : (a b : ℕ) (xs : List X) → a ≤ b → take (length (flat_map f (take b xs)) - length (flat_map f (take a xs))) (drop (length (flat_map f (take a xs))) (flat_map f xs)) ≡ flat_map f (slice_range xs a b)
  between a b xs le =
      let before = flat_map f (take a xs) in
      let text = flat_map f (slice_range xs a b) in
      let after = flat_map f (drop b xs) in
      let more : flat_map f (take b xs) ≡ before ++ text = laid_more a b xs le in
      let whole : flat_map f xs ≡ before ++ (text ++ after) = laid_all b xs ∙ ap (λ (l : List ℕ). l ++ after) more ∙ append_assoc before text after in
      rw (more, whole) (seam before text after)

  pub starts_before : (a b : ℕ) (xs : List X) → a ≤ b → length (flat_map f (take a xs)) ≤ length (flat_map f (take b xs))
  starts_before a b xs le = omega (arith, ap length (laid_more a b xs le), length-append (flat_map f (take a xs)) (flat_map f (slice_range xs a b)))

  pub ends_within : (b : ℕ) (xs : List X) → length (flat_map f (take b xs)) ≤ length (flat_map f xs)
  ends_within b xs = omega (arith, ap length (laid_all b xs), length-append (flat_map f (take b xs)) (flat_map f (drop b xs)))

-- the first text, and the others
pub front_of : (whole first others : List ℕ) → whole ≡ first ++ others → take (length first) whole ≡ first
front_of whole first others e = rw e (take-append_seam first others)

pub back_of : (whole first others : List ℕ) → whole ≡ first ++ others → take (length whole - length first) (drop (length first) whole) ≡ others
back_of whole first others e = grind (arith, common_steps)

-- ---- values of a column

one_or_two : (b : Bool) (x y : ℕ) → length (x ∷ cond b (y ∷ []) []) ≡ cond b 2 1
one_or_two b x y = grind (arith, common_steps)

pub laid_long : (c : AddressTlvKind) (l : AddressRecord) → length (laid c l) ≡ width_of c
laid_long c l = one_or_two (is_wide c) (unwrap_or (octet_pair c l) (0, 0)).0 (unwrap_or (octet_pair c l) (0, 0)).1

pub column_wide : (c : AddressTlvKind) (lines : List AddressRecord) → is_wide c ≡ true → length (column_text c lines) ≡ 2 * length lines
column_wide c [] e = refl
column_wide c (l ∷ lines) e =
    let one : length (laid c l) ≡ 2 = laid_long c l ∙ ap (λ (b : Bool). cond b 2 1) e in
    omega (arith, one, column_wide c lines e, length-append (laid c l) (column_text c lines))

pub column_narrow : (c : AddressTlvKind) (lines : List AddressRecord) → is_wide c ≡ false → length (column_text c lines) ≡ length lines
column_narrow c [] e = refl
column_narrow c (l ∷ lines) e =
    let one : length (laid c l) ≡ 1 = laid_long c l ∙ ap (λ (b : Bool). cond b 2 1) e in
    omega (arith, one, column_narrow c lines e, length-append (laid c l) (column_text c lines))
