-- Octets by pairs of hexadecimal digits.
use Rattle.mesh_dump.proofs.Common.{common_steps, ◌≡◌, ℕ, suc, ◌+◌, ◌*◌, ◌<◌, ◌≤◌, inl, inr, List, [], ◌∷◌, length, refl, sym, subst, ◌∙◌, arith, Option, Some, None, Ok, ◌%◌, Bool, true, false, ◌&&◌, ◌||◌, nat_le, nat_lt, nat_eq, slice_index, slice_set, bit_or, option_eq, option_map, cases_eq, le-ltb, leb-true, and_parts as both, get_or-set_same, get_or-set_other, le_or_l, le_or_r, hex_digit_value, decode_pairs, HIGH, LOW, IsPair, AreHexPairs, all_below, below}

-- ---- the tables

is_high : ℕ → Bool
is_high x = nat_le (slice_index HIGH x) 4096 && (nat_lt 255 (slice_index HIGH x) || option_eq nat_eq (option_map (λ (value : ℕ). value * 16) (hex_digit_value x)) (Some (slice_index HIGH x)))

all_high : all_below is_high 256 ≡ true
unfolding is_high
all_high = refl

is_low : ℕ → Bool
is_low x = nat_le (slice_index LOW x) 256 && (nat_lt 255 (slice_index LOW x) || option_eq nat_eq (hex_digit_value x) (Some (slice_index LOW x)))

all_low : all_below is_low 256 ≡ true
unfolding is_low
all_low = refl

pub one_of : (a b : Bool) → a ≡ false → (a || b) ≡ true → b ≡ true
one_of a b e h = grind (arith, common_steps)

pub same_value : (o : Option ℕ) (n : ℕ) → option_eq nat_eq o (Some n) ≡ true → o ≡ Some n
same_value o n e = grind (arith, common_steps)

pub high_is : (x : ℕ) → x < 256 → slice_index HIGH x < 256 → option_map (λ (value : ℕ). value * 16) (hex_digit_value x) ≡ Some (slice_index HIGH x)
unfolding is_high
high_is x fits lt = same_value _ _ (one_of (nat_lt 255 (slice_index HIGH x)) _ (le-ltb 255 (slice_index HIGH x) (omega (arith, lt))) (both _ _ (below is_high 256 all_high x fits)).1)

pub high_most : (x : ℕ) → x < 256 → slice_index HIGH x ≤ 4096
unfolding is_high
high_most x fits = leb-true _ _ (both _ _ (below is_high 256 all_high x fits)).0

pub low_is : (x : ℕ) → x < 256 → slice_index LOW x < 256 → hex_digit_value x ≡ Some (slice_index LOW x)
unfolding is_low
low_is x fits lt = same_value _ _ (one_of (nat_lt 255 (slice_index LOW x)) _ (le-ltb 255 (slice_index LOW x) (omega (arith, lt))) (both _ _ (below is_low 256 all_low x fits)).1)

pub low_most : (x : ℕ) → x < 256 → slice_index LOW x ≤ 256
unfolding is_low
low_most x fits = leb-true _ _ (both _ _ (below is_low 256 all_low x fits)).0

-- ---- pairs

pub pairs_decode : (at : ℕ) (text octets : List ℕ) → length text ≡ 2 * length octets → AreHexPairs text octets (length octets) → decode_pairs at text ≡ Ok octets
unfolding decode_pairs
pairs_decode at [] [] size are = refl
pairs_decode at [] (o ∷ octets) size are = absurd (omega (arith, size))
pairs_decode at (c ∷ []) octets size are = absurd (omega (arith, size))
pairs_decode at (c ∷ d ∷ text) [] size are = absurd (omega (arith, size))
pairs_decode at (c ∷ d ∷ text) (o ∷ octets) size are =
    let p = are 0 (omega arith) in
    let rest : AreHexPairs text octets (length octets) = λ k lt.
    let first : 2 * suc k ≡ suc (suc (2 * k)) = omega arith in
    let second : 2 * suc k + 1 ≡ suc (suc (2 * k + 1)) = omega arith in
    subst (λ (n : ℕ). IsPair (slice_index text (2 * k)) (slice_index (c ∷ d ∷ text) n) (slice_index octets k)) second
    (subst (λ (n : ℕ). IsPair (slice_index (c ∷ d ∷ text) n) (slice_index (c ∷ d ∷ text) (2 * suc k + 1)) (slice_index octets k)) first (are (suc k) (omega (arith, lt)))) in
    rw (p.first_is, p.second_is, pairs_decode (at + 2) text octets (omega (arith, size)) rest, p.octet_is) refl

sixteenfold : (o : Option ℕ) (n : ℕ) → option_map (λ (value : ℕ). value * 16) o ≡ Some n → (value : ℕ) × (o ≡ Some value) × (n ≡ value * 16)
sixteenfold None n e = cc
sixteenfold (Some value) n e = let same : value * 16 ≡ n = cc in (value, refl, sym same)

-- one pair more
pub one_more : (text octets : List ℕ) (i all high low : ℕ) → i < length octets → (all < 256 → AreHexPairs text octets i) → (high < 256 → option_map (λ (value : ℕ). value * 16) (hex_digit_value (slice_index text (2 * i))) ≡ Some high)
    → (low < 256 → hex_digit_value (slice_index text (2 * i + 1)) ≡ Some low) → bit_or all (high + low) < 256 → AreHexPairs text (slice_set octets i ((high + low) % 256)) (i + 1)
one_more text octets i all high low there before first second few k lt =
    let in_pair : high + low < 256 = omega (arith, few, le_or_r all (high + low)) in
    let (value, value_is, is) = sixteenfold _ high (first (omega (arith, in_pair))) in
    let octet = (high + low) % 256 in
    elim (cases_eq k i) [
      | inl same ↦ subst (λ (n : ℕ). IsPair (slice_index text (2 * n)) (slice_index text (2 * n + 1)) (slice_index (slice_set octets i octet) n)) (sym same) (record {
        first = value;
        second = low;
        first_is = value_is;
        second_is = second (omega (arith, in_pair));
        octet_is = get_or-set_same octets i octet 0 there ∙ (let e : octet ≡ value * 16 + low = omega (arith, in_pair, is) in e);
      })
      | inr other ↦ subst (λ (n : ℕ). IsPair (slice_index text (2 * k)) (slice_index text (2 * k + 1)) n) (sym (get_or-set_other octets i k octet 0 other)) (before (omega (arith, few, le_or_l all (high + low))) k (omega (arith, lt, other)))
    ]
