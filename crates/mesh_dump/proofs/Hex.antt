-- Hexadecimal text, and why a text is none.
use Rattle.mesh_dump.proofs.Common.{common_steps, ◌≡◌, ℕ, ◌+◌, ◌<◌, ◌%◌, true, false, ◌⊎◌, inl, inr, List, length, take, get_or, Result, Ok, Err, refl, ap, subst, ◌∙◌, arith, slice_index, AllPass, cases_eq, both_ways, get_or-take, length-take-le, decode_of, is_hex_digit, FromHexError, InvalidHexCharacter, OddLength, InvalidStringLength, Refusal, IsFirstOther, IsNotHex}
use Rattle.hex.proofs.HexLemmas.{decode_of-ok, decode_of-err}

-- what an error tells of a text
abbrev Told : List ℕ → FromHexError → Type 0
Told text e =
    ((length text % 2 ≡ 1) × (e ≡ OddLength))
    ⊎ ((k : ℕ) × (e ≡ InvalidHexCharacter (slice_index text k) (0 + k)) × (k < length text) × (is_hex_digit (slice_index text k) ≡ false) × AllPass is_hex_digit (take k text))

same_place : (c d i j : ℕ) → InvalidHexCharacter c i ≡ InvalidHexCharacter d j → i ≡ j
same_place c d i j e = cc

-- a text whose error is one of a digit has an even number of octets
even_text : (text : List ℕ) (c i : ℕ) → decode_of text ≡ Err (InvalidHexCharacter c i) → length text % 2 ≡ 0
even_text text c i e = grind (arith, common_steps, cases_eq)

pub other_digit : (text : List ℕ) (c place : ℕ) → decode_of text ≡ Err (InvalidHexCharacter c place) → IsNotHex text (record { place = place; reason = 12 })
other_digit text c place e = by (decode_of-err text (InvalidHexCharacter c place) e) where
  by : Told text (InvalidHexCharacter c place) → IsNotHex text (record { place = place; reason = 12 })
  by (inl (odd, unlike)) = absurd cc
  by (inr (k, is, within, other, before)) =
      let there : k ≡ place = omega (arith, same_place c (slice_index text k) place (0 + k) is) in
      let first : IsFirstOther text k = record { within = within; other = other; before = before } in
      inr (even_text text c place e, subst (λ (n : ℕ). IsFirstOther text n) there first, refl)

pub odd_text : (text : List ℕ) → decode_of text ≡ Err OddLength → IsNotHex text (record { place = length text; reason = 13 })
odd_text text e = by (decode_of-err text OddLength e) where
  by : Told text OddLength → IsNotHex text (record { place = length text; reason = 13 })
  by (inl (odd, same)) = inl (odd, refl)
  by (inr (k, unlike, within, other, before)) = absurd cc

pub never_length : (text : List ℕ) → decode_of text ≡ Err InvalidStringLength → ⊥
never_length text e = by (decode_of-err text InvalidStringLength e) where
  by : Told text InvalidStringLength → ⊥
  by (inl (odd, unlike)) = absurd cc
  by (inr (k, unlike, within, other, before)) = absurd cc

-- a text writes octets or has such a fault
pub written_or_not : (text : List ℕ) → ((octets : List ℕ) × (decode_of text ≡ Ok octets)) ⊎ ((refusal : Refusal) × IsNotHex text refusal)
written_or_not text = by (decode_of text) refl where
  by : (r : Result (List ℕ) FromHexError) → decode_of text ≡ r → ((octets : List ℕ) × (decode_of text ≡ Ok octets)) ⊎ ((refusal : Refusal) × IsNotHex text refusal)
  by (Ok octets) e = inl (octets, e)
  by (Err e) is = elim (decode_of-err text e is) [
    | inl (odd, same) ↦ inr (record { place = length text; reason = 13 }, inl (odd, refl))
    | inr (k, same, within, other, before) ↦ inr (record { place = 0 + k; reason = 12 }, other_digit text (slice_index text k) (0 + k) (is ∙ ap (λ (x : FromHexError). Err x) same))
  ]

-- the octets before the first other one are digits
digit_before : (text : List ℕ) (i k : ℕ) → i < k → IsFirstOther text k → is_hex_digit (get_or text i 0) ≡ true
digit_before text i k lt first =
    let long : i < length (take k text) = omega (arith, length-take-le k text (omega (arith, first.within))) in
    subst (λ (c : ℕ). is_hex_digit c ≡ true) (get_or-take k text i 0 lt) (first.before i 0 long)

not_before : (text : List ℕ) (i k : ℕ) → i < k → IsFirstOther text i → IsFirstOther text k → ⊥
not_before text i k lt here there = both_ways (is_hex_digit (get_or text i 0)) here.other (digit_before text i k lt there)

first_once : (text : List ℕ) (i k : ℕ) → IsFirstOther text i → IsFirstOther text k → i ≡ k
first_once text i k h j = grind (arith, common_steps, not_before)

-- and only one
pub not_hex_once : (text : List ℕ) (a b : Refusal) → IsNotHex text a → IsNotHex text b → a ≡ b
not_hex_once text a b h3 h4 = grind (arith, common_steps, first_once)

-- a text that writes octets has no such fault
pub not_hex_too : (text octets : List ℕ) (refusal : Refusal) → decode_of text ≡ Ok octets → IsNotHex text refusal → ⊥
not_hex_too text octets refusal e (inl (odd, is)) = absurd (omega (arith, odd, (decode_of-ok text octets e).0))
not_hex_too text octets refusal e (inr (even, first, why)) =
    both_ways (is_hex_digit (get_or text refusal.place 0)) first.other ((decode_of-ok text octets e).1 refusal.place 0 first.within)
