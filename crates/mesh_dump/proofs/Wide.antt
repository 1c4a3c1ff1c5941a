-- Digits and their octets in the lanes of vectors.
use Rattle.mesh_dump.proofs.Common.{common_steps, ◌≡◌, ℕ, ◌+◌, ◌-◌, ◌*◌, ◌%◌, ◌<◌, ◌≤◌, Bool, true, inl, inr, List, [], ◌∷◌, length, refl, ap, subst, ◌∙◌, arith, ◌||◌, ◌&&◌, nat_eq, nat_lt, slice_index, Some, bit_or, option_eq, put_chunk, cases_lt, le-ltb, eqb-true, and_parts as both, le_or_l, le_or_r, get_or-put_chunk_below, get_or-put_chunk_at, hex_digit_value, all_below, below, IsPair, AreHexPairs}
use Rattle.mesh_dump.specs.Values.{digit_value}
use Rattle.mesh_dump.proofs.Pairs.{one_of, same_value}

-- ---- values of digits

is_digit : ℕ → Bool
is_digit c = nat_lt 15 (digit_value c) || option_eq nat_eq (hex_digit_value c) (Some (digit_value c))

all_digits : all_below is_digit 256 ≡ true
unfolding is_digit
all_digits = refl

digit_is : (c : ℕ) → c < 256 → digit_value c < 16 → hex_digit_value c ≡ Some (digit_value c)
unfolding is_digit
digit_is c fits lt = same_value _ _ (one_of (nat_lt 15 (digit_value c)) _ (le-ltb 15 (digit_value c) (omega (arith, lt))) (below is_digit 256 all_digits c fits))

pair_is : (c d octet : ℕ) → c < 256 → d < 256 → digit_value c < 16 → digit_value d < 16 → octet ≡ (digit_value c * 16 % 256 + digit_value d) % 256 → IsPair c d octet
pair_is c d octet fits fits' lt lt' e = record {
  first = digit_value c;
  second = digit_value d;
  first_is = digit_is c fits lt;
  second_is = digit_is d fits' lt';
  octet_is = omega (arith, e, lt, lt');
}

-- ---- places of every second lane

abbrev pub evens : List ℕ
evens = 0 ∷ 2 ∷ 4 ∷ 6 ∷ 8 ∷ 10 ∷ 12 ∷ 14 ∷ 16 ∷ 18 ∷ 20 ∷ 22 ∷ 24 ∷ 26 ∷ 28 ∷ 30 ∷ []

abbrev pub odds : List ℕ
odds = 1 ∷ 3 ∷ 5 ∷ 7 ∷ 9 ∷ 11 ∷ 13 ∷ 15 ∷ 17 ∷ 19 ∷ 21 ∷ 23 ∷ 25 ∷ 27 ∷ 29 ∷ 31 ∷ []

is_second : ℕ → Bool
is_second k = nat_eq (slice_index evens k) (2 * k) && nat_eq (slice_index odds k) (2 * k + 1)

all_second : all_below is_second 16 ≡ true
unfolding is_second
all_second = refl

pub even_place : (k : ℕ) → k < 16 → slice_index evens k ≡ 2 * k
unfolding is_second
even_place k lt = eqb-true _ _ (both _ _ (below is_second 16 all_second k lt)).0

pub odd_place : (k : ℕ) → k < 16 → slice_index odds k ≡ 2 * k + 1
unfolding is_second
odd_place k lt = eqb-true _ _ (both _ _ (below is_second 16 all_second k lt)).1

-- ---- 16 octets more

-- each lane is below 16
abbrev pub AreLow : List ℕ → Type 0
AreLow v = (k : ℕ) → k < 32 → slice_index v k < 16

pub both_low : (a b c : List ℕ) → ((k : ℕ) → k < 32 → slice_index c k ≡ bit_or (slice_index a k) (slice_index b k)) → AreLow c → AreLow a × AreLow b
both_low a b c is low = grind (arith, common_steps, le_or_l, le_or_r)

pub sixteen_more : (text octets loaded digits v : List ℕ) (i : ℕ) → 16 * i + 16 ≤ length octets → length v ≡ 16 → ((k : ℕ) → slice_index text k < 256)
    → ((k : ℕ) → k < 32 → slice_index loaded k ≡ slice_index text (32 * i + k)) → ((k : ℕ) → k < 32 → slice_index digits k ≡ digit_value (slice_index loaded k))
    → ((k : ℕ) → k < 16 → slice_index v k ≡ (slice_index digits (2 * k) * 16 % 256 + slice_index digits (2 * k + 1)) % 256)
    → AreLow digits → AreHexPairs text octets (16 * i) → AreHexPairs text (put_chunk (16 * i) octets v) (16 * (i + 1))
sixteen_more text octets loaded digits v i room len fits loads values are low before j lt =
    elim (cases_lt j (16 * i)) [
      | inl less ↦ rw (get_or-put_chunk_below (16 * i) octets v j 0 less) (before j less)
      | inr more ↦
          let k : ℕ = j - 16 * i in
          let small : k < 16 = omega (arith, more, lt) in
          let here : 16 * i + k ≡ j = omega (arith, more) in
          let high_at : 32 * i + 2 * k ≡ 2 * j = omega (arith, more) in
          let low_at : 32 * i + (2 * k + 1) ≡ 2 * j + 1 = omega (arith, more) in
          let high_lt : 2 * k < 32 = omega (arith, small) in
          let low_lt : 2 * k + 1 < 32 = omega (arith, small) in
          let high : slice_index digits (2 * k) ≡ digit_value (slice_index text (2 * j)) = values (2 * k) high_lt ∙ ap digit_value (loads (2 * k) high_lt ∙ ap (λ (n : ℕ). slice_index text n) high_at) in
          let second : slice_index digits (2 * k + 1) ≡ digit_value (slice_index text (2 * j + 1)) = values (2 * k + 1) low_lt ∙ ap digit_value (loads (2 * k + 1) low_lt ∙ ap (λ (n : ℕ). slice_index text n) low_at) in
          let octet : slice_index (put_chunk (16 * i) octets v) (16 * i + k) ≡ slice_index v k = get_or-put_chunk_at (16 * i) octets v k 0 (omega (arith, small, len)) (omega (arith, room, len)) in
          let is : slice_index (put_chunk (16 * i) octets v) (16 * i + k) ≡ (digit_value (slice_index text (2 * j)) * 16 % 256 + digit_value (slice_index text (2 * j + 1))) % 256 = octet ∙ are k small ∙ ap (λ (n : ℕ). (n * 16 % 256 + slice_index digits (2 * k + 1)) % 256) high ∙ ap (λ (n : ℕ). (digit_value (slice_index text (2 * j)) * 16 % 256 + n) % 256) second in
          subst (λ (n : ℕ). IsPair (slice_index text (2 * j)) (slice_index text (2 * j + 1)) (slice_index (put_chunk (16 * i) octets v) n)) here
          (pair_is _ _ _ (fits (2 * j)) (fits (2 * j + 1)) (subst (λ (n : ℕ). n < 16) high (low (2 * k) high_lt)) (subst (λ (n : ℕ). n < 16) second (low (2 * k + 1) low_lt)) is)
    ]
