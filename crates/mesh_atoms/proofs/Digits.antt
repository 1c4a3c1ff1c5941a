-- The decimal digits of a number, from the last to the first.
use Rattle.mesh_atoms.proofs.Common.{common_steps, ◌≡◌, ℕ, zero, suc, ◌+◌, ◌-◌, ◌/◌, ◌%◌, ◌<◌, ◌≤◌, ◌^◌, false, List, [], ◌∷◌, length, take, drop, refl, sym, ap, ◌∙◌, arith, slice_set, decimal, length-set, drop-set, length-drop, take_all, lt-ltb, ne_eqb}
use Rattle.std.specs.Fmt.{digits, digits_onto, digit_glyph}

-- the digits of `left`, at most `most`, before those that stand
unfoldable pub digits_before : ℕ → ℕ → List ℕ → List ℕ
digits_before most left standing = digits_onto most 10 false left standing

pub digits_before-none : (n : ℕ) → digits_before 64 n [] ≡ decimal n
unfolding digits_before digits
digits_before-none n = refl

glyph : (n : ℕ) → digit_glyph false (n % 10) ≡ 48 + n % 10
glyph n = rw (lt-ltb (n % 10) 10 (omega arith)) refl

pub digits_before-more : (most n : ℕ) (standing : List ℕ) → 9 < n → digits_before (suc most) n standing ≡ digits_before most (n / 10) ((48 + n % 10) ∷ standing)
unfolding digits_before
digits_before-more most n standing more = rw (ne_eqb (n / 10) 0 (λ z. absurd (omega (arith, z))), glyph n) refl

pub digits_before-last : (most n : ℕ) (standing : List ℕ) → n ≤ 9 → digits_before (suc most) n standing ≡ (48 + n) ∷ standing
unfolding digits_before
digits_before-last most n standing few = grind (arith, common_steps, glyph)

-- a number of more digits than one has room before its last
pub room_before : (at left : ℕ) → 9 < left → left < 10 ^ at → (2 ≤ at) × (left / 10 < 10 ^ (at - 1))
room_before zero left more room = absurd (omega arith)
room_before (suc zero) left more room = absurd (omega arith)
room_before (suc (suc at)) left more room = grind (arith, common_steps)

-- the digit before those that stand
pub drop-stored : (digits : List ℕ) (at digit : ℕ) → length digits ≡ 20 → 1 ≤ at → at ≤ 20 → drop (at - 1) (slice_set digits (at - 1) digit) ≡ digit ∷ drop at digits
drop-stored digits at digit size some within = grind (arith, common_steps, drop-set)

-- all the digits, where one is left
pub take-stored : (digits : List ℕ) (at left : ℕ) → length digits ≡ 20 → 1 ≤ at → at ≤ 20 → left ≤ 9
    → take (20 - (at - 1)) (drop (at - 1) (slice_set digits (at - 1) (48 + left))) ≡ digits_before (44 + at) left (drop at digits)
take-stored digits at left size some within few =
    let stored : List ℕ = slice_set digits (at - 1) (48 + left) in
    let all : length (drop (at - 1) stored) ≤ 20 - (at - 1) = omega (arith, length-drop (at - 1) stored, length-set digits (at - 1) (48 + left)) in
    let next : 44 + at ≡ suc (44 + (at - 1)) = omega arith in
    take_all (20 - (at - 1)) (drop (at - 1) stored) all
    ∙ drop-stored digits at (48 + left) size some within
    ∙ sym (digits_before-last (44 + (at - 1)) left (drop at digits) few)
    ∙ ap (λ (most : ℕ). digits_before most left (drop at digits)) (sym next)
