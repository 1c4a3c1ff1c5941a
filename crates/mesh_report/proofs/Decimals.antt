-- Decimal digits, and how many there are.
use Rattle.mesh_report.proofs.Common.{common_steps, ◌≡◌, ℕ, ◌+◌, ◌<◌, ◌≤◌, ◌^◌, ◌/◌, ◌%◌, List, [], ◌∷◌, ◌++◌, length, decimal, ap, ◌∙◌, arith, length-append, decimal_digit, decimal_step, length-decimal-le}

pub room_u64 : (n : ℕ) → n < 2 ^ 64 → length (decimal n) ≤ 20
room_u64 n h = length-decimal-le 20 n (omega arith) (omega arith) h

pub ruleset decimals = room_u64

pub one_digit : (n : ℕ) → n ≤ 9 → length (decimal n) ≡ 1
one_digit n h = ap length (decimal_digit n (omega arith))

pub two_digits : (n : ℕ) → 10 ≤ n → n < 100 → decimal n ≡ (48 + n / 10) ∷ ((48 + n % 10) ∷ [])
two_digits n least most = decimal_step n (omega (arith, least)) (omega (arith, most)) ∙ ap (λ (l : List ℕ). l ++ (48 + n % 10) ∷ []) (decimal_digit (n / 10) (omega (arith, most)))

pub two_last : (n : ℕ) → 99 < n → n < 2 ^ 64 → decimal n ≡ decimal (n / 100) ++ ((48 + n % 100 / 10) ∷ ((48 + n % 100 % 10) ∷ []))
two_last n more fits = grind (arith, common_steps, decimal_step)

pub two_longer : (n : ℕ) → 99 < n → n < 2 ^ 64 → length (decimal n) ≡ length (decimal (n / 100)) + 2
two_longer n more fits = ap length (two_last n more fits) ∙ length-append (decimal (n / 100)) ((48 + n % 100 / 10) ∷ ((48 + n % 100 % 10) ∷ []))
