-- Greater codes stand for greater times and costs, and rounding up gives the least.
use Rattle.mesh_atoms.proofs.Common.{common_steps, ◌≡◌, ℕ, suc, ◌+◌, ◌*◌, ◌/◌, ◌%◌, ◌^◌, ◌<◌, ◌≤◌, ◌⊎◌, inl, inr, min, List, ◌∷◌, length, get_or, drop, refl, ap, subst, arith, drop-cons, pow-succ', mul-le-mul_left, mul-le-mul_right, mul-lt-mul_of_pos_right, le-mul_of_pos_right, pow_pos, ne_eqb, Metric, cost_of, metric_value, time_value, IsSentCode, time_at_distance, div_ceil_times}
use Rattle.std.proofs.Math.Pow.{pow_mono}

-- ---- mantissas and exponents

-- at a greater exponent each number is greater, where mantissas are less than twice the least
scaled_above : (low top m m' e e' : ℕ) → top < 2 * low → m ≤ top → low ≤ m' → e < e' → m * 2 ^ e < m' * 2 ^ e'
scaled_above low top m m' e e' narrow le ge lt =
    let p : 0 < 2 ^ e = pow_pos e in
    let twice : 2 ^ suc e ≡ 2 * 2 ^ e = pow-succ' 2 e in
    let up : 2 ^ suc e ≤ 2 ^ e' = pow_mono (omega arith) in
    let a : m * 2 ^ e ≤ top * 2 ^ e = mul-le-mul_right (2 ^ e) le in
    let b : (top + 1) * 2 ^ e ≤ 2 * low * 2 ^ e = mul-le-mul_right (2 ^ e) (omega arith) in
    let c : low * 2 ^ suc e ≤ low * 2 ^ e' = mul-le-mul_left low up in
    let d : low * 2 ^ e' ≤ m' * 2 ^ e' = mul-le-mul_right (2 ^ e') ge in
    let k : low * 2 ^ suc e ≡ low * (2 * 2 ^ e) = ap (λ (n : ℕ). low * n) twice in
    omega arith

-- by exponent, then by mantissa
scaled_less : (low top m m' e e' : ℕ) → top < 2 * low → m ≤ top → low ≤ m' → (e < e') ⊎ ((e ≡ e') × (m < m')) → m * 2 ^ e < m' * 2 ^ e'
scaled_less low top m m' e e' narrow le ge (inl lt) = scaled_above low top m m' e e' narrow le ge lt
scaled_less low top m m' e e' narrow le ge (inr both) =
    subst (λ (k : ℕ). m * 2 ^ e < m' * 2 ^ k) both.0 (mul-lt-mul_of_pos_right both.1 (pow_pos e))

-- n over the power, rounded up, is a mantissa that reaches n
pub ceil_reaches : (n p q : ℕ) → 0 < p → n / p + min 1 (n % p) ≤ q → n ≤ q * p
ceil_reaches n p q pos le = grind (arith, common_steps, div_ceil_times)

-- and none below it does
pub ceil_least : (n m p : ℕ) → 0 < p → n ≤ m * p → n / p + min 1 (n % p) ≤ m
ceil_least n m p pos reached = grind (arith, common_steps, div_ceil_times)

-- no exponent and mantissa before these reach n
pub rounded_least : (n low top e q e' m' : ℕ) → ((k : ℕ) → k < e → top * 2 ^ k < n) → (q ≤ low) ⊎ (q ≤ n / 2 ^ e + min 1 (n % 2 ^ e)) → low ≤ m' → m' ≤ top → n ≤ m' * 2 ^ e' →
    (e < e') ⊎ ((e ≡ e') × (q ≤ m'))
rounded_least n low top e q e' m' fewer is ge le reached = grind (arith, common_steps, ceil_least)

-- ---- metrics

-- 257 at least
scaled_cost : (code : ℕ) → 257 ≤ (257 + code % 256) * 2 ^ (code / 256)
scaled_cost code =
    let p : 0 < 2 ^ (code / 256) = pow_pos (code / 256) in
    let q : 257 + code % 256 ≤ (257 + code % 256) * 2 ^ (code / 256) = le-mul_of_pos_right (257 + code % 256) p in
    omega arith

pub cost_above_zero : (code : ℕ) → 1 ≤ cost_of code
cost_above_zero code = let q = scaled_cost code in omega (arith, scaled_cost code)

pub metric_above_zero : (metric : Metric) → 1 ≤ metric_value metric
metric_above_zero metric = cost_above_zero metric.code

-- a greater code stands for a greater cost
pub cost-less : (a b : ℕ) → a < b → cost_of a < cost_of b
cost-less a b lt = grind (arith, common_steps, scaled_less, scaled_cost)

pub cost-le : (a b : ℕ) → a ≤ b → cost_of a ≤ cost_of b
cost-le a b le = grind (arith, common_steps, cost-less)

-- the cost tells the code
pub cost-injective : (a b : ℕ) → cost_of a ≡ cost_of b → a ≡ b
cost-injective a b e = grind (arith, common_steps, cost-less)

-- ---- times

scaled_time : (code : ℕ) → 8 ≤ (8 + code % 8) * 2 ^ (code / 8)
scaled_time code =
    let p : 0 < 2 ^ (code / 8) = pow_pos (code / 8) in
    let q : 8 + code % 8 ≤ (8 + code % 8) * 2 ^ (code / 8) = le-mul_of_pos_right (8 + code % 8) p in
    omega arith

time_scaled : (code : ℕ) → time_value (suc code) ≡ (8 + suc code % 8) * 2 ^ (suc code / 8)
time_scaled code = rw (ne_eqb (suc code) 0 (omega arith)) refl

-- a greater code stands for a longer time
pub time-less : (a b : ℕ) → a < b → time_value a < time_value b
time-less a b lt = grind (arith, common_steps, scaled_time, time_scaled, scaled_less)

pub time-le : (a b : ℕ) → a ≤ b → time_value a ≤ time_value b
time-le a b le = grind (arith, common_steps, time-less)

-- 254 is the greatest code that is sent
pub sent_most : (code : ℕ) → IsSentCode code → time_value code ≤ 14 * 2 ^ 31
sent_most code sent = time-le code 254 sent.1

-- ---- times at a distance

-- the two octets that stand at a place, and the rest
two_there : (s : List ℕ) (at : ℕ) → at + 1 < length s → drop at s ≡ get_or s at 0 ∷ get_or s (at + 1) 0 ∷ drop (at + 2) s
two_there s at lt = grind (arith, common_steps, drop-cons)

-- where a pair does not reach, the time is that of the rest
pub time_further : (distance : ℕ) (s : List ℕ) (at : ℕ) → at + 1 < length s → get_or s (at + 1) 0 < distance → time_at_distance distance (drop at s) ≡ time_at_distance distance (drop (at + 2) s)
time_further distance s at lt short = grind (arith, common_steps, two_there)

-- ---- what is rounded up stays what it was

-- the least code for the time of a code that is sent is that code
pub time_again : (code least : ℕ) → IsSentCode code → time_value code ≤ time_value least → ((other : ℕ) → IsSentCode other → time_value code ≤ time_value other → least ≤ other) → least ≡ code
time_again code least sent enough low = grind (arith, common_steps, time-less)
