-- The first line of a text, and those after it.
use Rattle.mesh_trace.proofs.Common.{◌≡◌, ℕ, zero, suc, ◌<◌, inl, inr, true, eqb, List, [], ◌∷◌, length, take, drop, refl, sym, ap, ◌∙◌, arith, slice_index, cases_Bool, drop_all, lines_of, begun}

-- up to the first line feed, at place k
pub lines_at : (text : List ℕ) (k : ℕ) → k < length text → eqb (slice_index text k) 10 ≡ true →
    ((j : ℕ) → j < k → eqb (slice_index text j) 10 ≡ true → ⊥) → lines_of text ≡ take k text ∷ lines_of (drop (suc k) text)
lines_at [] k within is first = absurd (omega (arith, within))
lines_at (x ∷ xs) zero within is first = rw is refl
lines_at (x ∷ xs) (suc k) within is first = elim (cases_Bool (eqb x 10)) [
  | inl here ↦ absurd (first 0 (omega arith) here)
  | inr other ↦
      let rest = lines_at xs k (omega (arith, within)) is (λ j less feed. first (suc j) (omega (arith, less)) feed) in
      rw other (ap (begun x) rest)
]

-- where there is no line feed
pub lines_whole : (x : ℕ) (xs : List ℕ) → ((j : ℕ) → j < length (x ∷ xs) → eqb (slice_index (x ∷ xs) j) 10 ≡ true → ⊥) → lines_of (x ∷ xs) ≡ (x ∷ xs) ∷ []
lines_whole x [] none = elim (cases_Bool (eqb x 10)) [
  | inl here ↦ absurd (none 0 (omega arith) here)
  | inr other ↦ rw other refl
]
lines_whole x (y ∷ ys) none = elim (cases_Bool (eqb x 10)) [
  | inl here ↦ absurd (none 0 (omega arith) here)
  | inr other ↦
      let rest = lines_whole y ys (λ j less feed. none (suc j) (omega (arith, less)) feed) in
      rw other (ap (begun x) rest)
]

-- the same of a text that isn't empty
pub lines_all : (text : List ℕ) → 0 < length text → ((j : ℕ) → j < length text → eqb (slice_index text j) 10 ≡ true → ⊥) →
    lines_of text ≡ text ∷ lines_of (drop (length text) text)
lines_all [] some none = absurd (omega (arith, some))
lines_all (x ∷ xs) some none = lines_whole x xs none ∙ ap (λ (rest : List ℕ). (x ∷ xs) ∷ lines_of rest) (sym (drop_all (length (x ∷ xs)) (x ∷ xs) (omega arith)))
