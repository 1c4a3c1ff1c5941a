-- The mantissa is the quotient rounded up, or the least there is.
use Rattle.mesh_atoms.proofs.Common.{◌≡◌, ℕ, ◌+◌, ◌*◌, ◌%◌, ◌^◌, ◌/◌, min, ◌∙◌, ap, inl, inr, arith, pow_pos, one_shl, cases_lt}
use Rattle.mesh_atoms.proofs.CodesLemmas.CodeLaws.{ceil_reaches, ceil_least, rounded_least}
use Rattle.mesh_atoms.proofs.codes.codes.rounded_up.Goals as goal

-- the quotient, rounded up
ceil : (n d e q : ℕ) → d ≡ 2 ^ e → q ≡ n / d + min 1 (n % d) → q ≡ n / 2 ^ e + min 1 (n % 2 ^ e)
ceil n d e q power is = is ∙ ap (λ (k : ℕ). n / k + min 1 (n % k)) power

pub returns-clause-at_most : goal.returns-clause-at_most
returns-clause-at_most c =
    let n : ℕ = c.args.value in
    let e : ℕ = c.exponent_for-exponent.result in
    let is = ceil n (1 * 2 ^ e % 2 ^ 64) e c.div_ceil.result (one_shl e 64 (omega arith)) c.div_ceil.ensures in
    let le = ceil_least n c.args.top (2 ^ e) (pow_pos e) c.exponent_for-exponent.ensures.enough in
    omega (arith, is, le)

pub returns-clause-enough : goal.returns-clause-enough
returns-clause-enough c =
    let n : ℕ = c.args.value in
    let e : ℕ = c.exponent_for-exponent.result in
    let is = ceil n (1 * 2 ^ e % 2 ^ 64) e c.div_ceil.result (one_shl e 64 (omega arith)) c.div_ceil.ensures in
    ceil_reaches n (2 ^ e) c.max.result (pow_pos e) (omega (arith, is))

pub returns-clause-least : goal.returns-clause-least
returns-clause-least c = λ exponent mantissa low top reached.
    let n : ℕ = c.args.value in
    let e : ℕ = c.exponent_for-exponent.result in
    let is = ceil n (1 * 2 ^ e % 2 ^ 64) e c.div_ceil.result (one_shl e 64 (omega arith)) c.div_ceil.ensures in
    rounded_least n c.args.low c.args.top e c.max.result exponent mantissa c.exponent_for-exponent.ensures.least
    (elim (cases_lt c.args.low c.max.result) [ inl above ↦ inr (omega (arith, is)) | inr at ↦ inl at ]) low top reached
