-- The first place of an octet that passes a test.
use Rattle.mesh_dump.proofs.Common.{common_steps, ◌≡◌, ℕ, zero, suc, ◌+◌, ◌<◌, inl, inr, List, [], ◌∷◌, length, refl, sym, ap, ◌∙◌, arith, Option, Some, None, Bool, true, slice_index, position, position_from, cases_Bool, IsFirstByte}
use Rattle.std.proofs.lemmas.Iterator.Adapters.{position_from-zero}

from_none : (test : ℕ → Bool) (at : ℕ) (xs : List ℕ) → ((k : ℕ) → k < length xs → test (slice_index xs k) ≡ true → ⊥) → position_from test at xs ≡ None
from_none test at [] wrong = refl
from_none test at (x ∷ xs) wrong = elim (cases_Bool (test x)) [
  | inl right ↦ absurd (wrong 0 (omega arith) right)
  | inr other ↦ rw other (from_none test (at + 1) xs (λ k lt is. wrong (suc k) (omega (arith, lt)) is))
]

from_some : (test : ℕ → Bool) (at : ℕ) (xs : List ℕ) (k : ℕ) → k < length xs → test (slice_index xs k) ≡ true → ((j : ℕ) → j < k → test (slice_index xs j) ≡ true → ⊥) → position_from test at xs ≡ Some (at + k)
from_some test at [] k lt right wrong = absurd (omega (arith, lt))
from_some test at (x ∷ xs) zero lt right wrong = let same : at + 0 ≡ at = omega arith in rw (right, same) refl
from_some test at (x ∷ xs) (suc k) lt right wrong = elim (cases_Bool (test x)) [
  | inl here ↦ absurd (wrong 0 (omega arith) here)
  | inr other ↦
      let same : (at + 1) + k ≡ at + suc k = omega arith in
      rw other (from_some test (at + 1) xs k (omega (arith, lt)) right (λ j less is. wrong (suc j) (omega (arith, less)) is) ∙ ap Some same)
]

-- what a search of octets finds is that place
pub first_passing : (test : ℕ → Bool) (xs : List ℕ) (r : Option ℕ) → IsFirstByte test xs r → r ≡ position test xs
first_passing test xs None h = sym (position_from-zero test xs ∙ from_none test 0 xs (λ k lt is. h k (omega arith) lt is))
first_passing test xs (Some k) h = grind (arith, common_steps, position_from-zero, from_some)

-- where the first octet passes
pub first_here : (test : ℕ → Bool) (xs : List ℕ) → 0 < length xs → test (slice_index xs 0) ≡ true → position test xs ≡ Some 0
first_here test xs some is = position_from-zero test xs ∙ from_some test 0 xs 0 some is (λ j less wrong. absurd (omega (arith, less)))
