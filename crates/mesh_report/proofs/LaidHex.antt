-- Octets laid in hexadecimal digits, one by one.
use Rattle.mesh_report.proofs.Common.{◌≡◌, ℕ, suc, ◌+◌, ◌-◌, ◌*◌, ◌/◌, ◌%◌, ◌<◌, ◌≤◌, inl, inr, List, [], ◌∷◌, length, refl, ap, subst, ◌∙◌, arith, Bool, true, ◌&&◌, nat_eq, slice_index, put_chunk, cases_lt, eqb-true, and_parts as both, get_or-put_chunk_below, get_or-put_chunk_at, lower_digits, encode_with, DIGITS, HasDigits, AreDigits}
use Rattle.mesh_report.proofs.Tables.{all_below, below}

digit : ℕ → ℕ
digit n = slice_index lower_digits n

is_pair : ℕ → Bool
is_pair x = nat_eq (slice_index DIGITS x % 256) (digit (x / 16)) && nat_eq (slice_index DIGITS x / 256) (digit (x % 16))

all_pairs : all_below is_pair 256 ≡ true
unfolding is_pair digit
all_pairs = refl

pub first_is : (x : ℕ) → x < 256 → slice_index DIGITS x % 256 ≡ slice_index lower_digits (x / 16)
unfolding is_pair digit
first_is x fits = eqb-true _ _ (both _ _ (below is_pair 256 all_pairs x fits)).0

pub second_is : (x : ℕ) → x < 256 → slice_index DIGITS x / 256 ≡ slice_index lower_digits (x % 16)
unfolding is_pair digit
second_is x fits = eqb-true _ _ (both _ _ (below is_pair 256 all_pairs x fits)).1

pub digits_all : (octets text : List ℕ) → length text ≡ 2 * length octets → AreDigits octets text (length octets) → text ≡ encode_with lower_digits octets
unfolding encode_with
digits_all [] [] size are = refl
digits_all [] (c ∷ text) size are = absurd (omega (arith, size))
digits_all (o ∷ octets) [] size are = absurd (omega (arith, size))
digits_all (o ∷ octets) (c ∷ []) size are = absurd (omega (arith, size))
digits_all (o ∷ octets) (c ∷ d ∷ text) size are =
    let p = are 0 (omega arith) in
    let first : c ≡ slice_index lower_digits (o / 16) = p.0 in
    let second : d ≡ slice_index lower_digits (o % 16) = p.1 in
    let rest : AreDigits octets text (length octets) = λ k lt.
    let one : 2 * suc k ≡ suc (suc (2 * k)) = omega arith in
    let two : 2 * suc k + 1 ≡ suc (suc (2 * k + 1)) = omega arith in
    subst (λ (n : ℕ). HasDigits (slice_index octets k) (slice_index text (2 * k)) (slice_index (c ∷ d ∷ text) n)) two
    (subst (λ (n : ℕ). HasDigits (slice_index octets k) (slice_index (c ∷ d ∷ text) n) (slice_index (c ∷ d ∷ text) (2 * suc k + 1))) one (are (suc k) (omega (arith, lt)))) in
    ap (λ (n : ℕ). n ∷ d ∷ text) first ∙ ap (λ (n : ℕ). slice_index lower_digits (o / 16) ∷ n ∷ text) second
    ∙ ap (λ (l : List ℕ). slice_index lower_digits (o / 16) ∷ slice_index lower_digits (o % 16) ∷ l) (digits_all octets text (omega (arith, size)) rest)

-- 16 octets more
pub sixteen_more : (octets text v digits : List ℕ) (i : ℕ) → 32 * i + 32 ≤ length text → length digits ≡ 32 → ((k : ℕ) → k < 16 → slice_index v k ≡ slice_index octets (16 * i + k))
    → ((k : ℕ) → k < 16 → HasDigits (slice_index v k) (slice_index digits (2 * k)) (slice_index digits (2 * k + 1))) → AreDigits octets text (16 * i) → AreDigits octets (put_chunk (32 * i) text digits) (16 * (i + 1))
sixteen_more octets text v digits i room len is are before j lt =
    elim (cases_lt j (16 * i)) [
      | inl less ↦
          let p = before j less in
          let first : slice_index (put_chunk (32 * i) text digits) (2 * j) ≡ slice_index text (2 * j) = get_or-put_chunk_below (32 * i) text digits (2 * j) 0 (omega (arith, less)) in
          let second : slice_index (put_chunk (32 * i) text digits) (2 * j + 1) ≡ slice_index text (2 * j + 1) = get_or-put_chunk_below (32 * i) text digits (2 * j + 1) 0 (omega (arith, less)) in
          (first ∙ p.0, second ∙ p.1)
      | inr more ↦
          let k : ℕ = j - 16 * i in
          let small : k < 16 = omega (arith, more, lt) in
          let here : 16 * i + k ≡ j = omega (arith, more) in
          let at : 32 * i + 2 * k ≡ 2 * j = omega (arith, more) in
          let next : 32 * i + (2 * k + 1) ≡ 2 * j + 1 = omega (arith, more) in
          let p = are k small in
          let first : slice_index (put_chunk (32 * i) text digits) (32 * i + 2 * k) ≡ slice_index digits (2 * k) = get_or-put_chunk_at (32 * i) text digits (2 * k) 0 (omega (arith, small, len)) (omega (arith, room, len)) in
          let second : slice_index (put_chunk (32 * i) text digits) (32 * i + (2 * k + 1)) ≡ slice_index digits (2 * k + 1) = get_or-put_chunk_at (32 * i) text digits (2 * k + 1) 0 (omega (arith, small, len)) (omega (arith, room, len)) in
          let octet : slice_index v k ≡ slice_index octets j = is k small ∙ ap (λ (n : ℕ). slice_index octets n) here in (
            subst (λ (n : ℕ). slice_index (put_chunk (32 * i) text digits) n ≡ slice_index lower_digits (slice_index octets j / 16)) at (first ∙ p.0 ∙ ap (λ (o : ℕ). slice_index lower_digits (o / 16)) octet),
            subst (λ (n : ℕ). slice_index (put_chunk (32 * i) text digits) n ≡ slice_index lower_digits (slice_index octets j % 16)) next (second ∙ p.1 ∙ ap (λ (o : ℕ). slice_index lower_digits (o % 16)) octet),
          )
    ]
