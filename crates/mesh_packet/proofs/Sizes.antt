-- Messages beside their sizes, and where they stand.
use Rattle.mesh_packet.proofs.Common.{◌≡◌, ℕ, ◌+◌, ◌-◌, List, [], ◌∷◌, ◌++◌, length, map, refl, ap, arith, common_steps, zip, sum_by, spans_from}
use Rattle.std.proofs.lemmas.List.Sums.{sum_by-cons, sum_by_push}

pub zip_push : {A B : Type 0} (xs : List A) (ys : List B) (x : A) (y : B) → length xs ≡ length ys → zip (xs ++ x ∷ []) (ys ++ y ∷ []) ≡ zip xs ys ++ (x, y) ∷ []
zip_push [] [] x y e = refl
zip_push {A} {B} (a ∷ xs) (b ∷ ys) x y e = ap (λ (l : List (A × B)). (a, b) ∷ l) (zip_push xs ys x y (omega (arith, e)))
zip_push [] (b ∷ ys) x y e = absurd (omega (arith, e))
zip_push (a ∷ xs) [] x y e = absurd (omega (arith, e))

pub zip_firsts : {A B : Type 0} (xs : List A) (ys : List B) → length xs ≡ length ys → map (λ p. p.0) (zip xs ys) ≡ xs
zip_firsts [] [] e = refl
zip_firsts {A} (a ∷ xs) (b ∷ ys) e = ap (λ (l : List A). a ∷ l) (zip_firsts xs ys (omega (arith, e)))
zip_firsts [] (b ∷ ys) e = refl
zip_firsts (a ∷ xs) [] e = absurd (omega (arith, e))

pub zip_seconds : {A B : Type 0} (xs : List A) (ys : List B) → length xs ≡ length ys → map (λ p. p.1) (zip xs ys) ≡ ys
zip_seconds [] [] e = refl
zip_seconds {A} {B} (a ∷ xs) (b ∷ ys) e = ap (λ (l : List B). b ∷ l) (zip_seconds xs ys (omega (arith, e)))
zip_seconds [] (b ∷ ys) e = absurd (omega (arith, e))
zip_seconds (a ∷ xs) [] e = refl

-- all sizes together
abbrev pub total : List ℕ → ℕ
total ns = sum_by (λ n. n) ns

pub spans_push : (at : ℕ) (ns : List ℕ) (n : ℕ) → spans_from at (ns ++ n ∷ []) ≡ spans_from at ns ++ record { start = at + total ns; len = n } ∷ []
spans_push at [] n = let e : at ≡ at + 0 = omega arith in ap (λ (k : ℕ). record { start = k; len = n } ∷ []) e
spans_push at (m ∷ ns) n = grind (arith, common_steps, sum_by-cons, spans_push (at + m) ns n)

pub total_push : (ns : List ℕ) (n : ℕ) → total (ns ++ n ∷ []) ≡ total ns + n
total_push ns n = sum_by_push (λ k. k) ns n
