-- Tables whose entries pass a test.
use Rattle.mesh_report.proofs.Common.{◌≡◌, ℕ, zero, suc, ◌<◌, inl, inr, sym, subst, arith, Bool, true, ◌&&◌, cases_lt, and_parts as both}

abbrev pub all_below : (ℕ → Bool) → ℕ → Bool
all_below p zero = true
all_below p (suc n) = p n && all_below p n

pub below : (p : ℕ → Bool) (n : ℕ) → all_below p n ≡ true → (x : ℕ) → x < n → p x ≡ true
below p zero all x lt = absurd (omega (arith, lt))
below p (suc n) all x lt = elim (cases_lt x n) [
  | inl less ↦ below p n (both (p n) (all_below p n) all).1 x less
  | inr ge ↦ let same : x ≡ n = omega (arith, lt, ge) in subst (λ (k : ℕ). p k ≡ true) (sym same) (both (p n) (all_below p n) all).0
]
