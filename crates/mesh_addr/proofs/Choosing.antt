-- The best of the choices within the limits, as the search finds it.
use Rattle.mesh_addr.proofs.Common.{◌≡◌, ℕ, ◌+◌, ◌-◌, ◌*◌, ◌<◌, ◌≤◌, Bool, true, false, ltb, refl, arith, common_steps, ltb-false, ltb-true, mul-add, mul-le-mul_right, Choice, TailForm, tail_len, tail_rank, choice_rank, cost, weight, cheaper, IsWithinLimits, IsBestOf, HasHead}
use Rattle.mesh_addr.specs.declared.choices.Limits.{Limits}
use Rattle.mesh_addr.specs.declared.choices.TailForm.TheVariants as tails

rank_most : (t : TailForm) → tail_rank t ≤ 2
rank_most t = grind (arith, common_steps)

-- a rank is less than one octet weighs
pub rank_below : (w : ℕ) (choice : Choice) → w ≤ 16 → choice.head + tail_len choice.tail ≤ w → choice_rank choice < 867
rank_below w choice small fits = omega (arith, rank_most choice.tail)

-- of two choices in the order of preference the cheaper one weighs no more than either
pub cheaper_least : (w count : ℕ) (a b : Choice) → w ≤ 16 → a.head + tail_len a.tail ≤ w → b.head + tail_len b.tail ≤ w → choice_rank a ≤ choice_rank b → (weight w count (cheaper w count a b) ≤ weight w count a) × (weight w count (cheaper w count a b) ≤ weight w count b)
cheaper_least w count a b small fits fits' before = grind (arith, common_steps, ltb-true, rank_most, ltb-false)

-- what holds of both holds of the cheaper one
pub cheaper_either : (P : Choice → Type 0) (w count : ℕ) (a b : Choice) → P a → P b → P (cheaper w count a b)
cheaper_either P w count a b h k = grind (arith, common_steps)

-- ---- the tails of one head

module _ (w count head : ℕ) where
  abbrev pub plain : Choice
  plain = record { head = head; tail = tails.Absent }

  abbrev pub with_zeros : ℕ → Choice
  with_zeros n = record { head = head; tail = tails.Zeros n }

  abbrev pub with_full : ℕ → Choice
  with_full n = record { head = head; tail = tails.Full n }

  -- middle parts that are longer by some octets
  longer : (n m : ℕ) → n ≤ m → head + m ≤ w → count * (w - (head + n)) ≡ count * (w - (head + m)) + count * (m - n)
  longer n m le fits = grind (arith, common_steps, mul-add)

  -- so many octets of each address are no fewer than those of some
  times : (some n : ℕ) → some ≤ count → some * n ≤ count * n
  times some n le = mul-le-mul_right n le

  -- more zeros weigh no more
  zeros_lighter : (n m : ℕ) → 0 < count → n ≤ m → m ≤ 16 → head + m ≤ w → weight w count (with_zeros m) ≤ weight w count (with_zeros n)
  unfolding cost
  zeros_lighter n m some le small fits = omega (arith, longer n m le fits, times 1 (m - n) some)

  -- a longer full tail weighs no more where there are two addresses
  full_lighter : (n m : ℕ) → 1 < count → n ≤ m → m ≤ 16 → head + m ≤ w → weight w count (with_full m) ≤ weight w count (with_full n)
  unfolding cost
  full_lighter n m two le small fits = omega (arith, longer n m le fits, times 2 (m - n) two)

  -- with one address no tail weighs less than a full one
  plain_lighter : (n : ℕ) → count ≡ 1 → head + n ≤ w → weight w count plain ≤ weight w count (with_full n)
  unfolding cost
  plain_lighter n one fits = grind (arith, common_steps, longer)

-- the best of three tails is the best of all
module _ (w count head : ℕ) (limits : Limits) (zeros full : ℕ) (small : w ≤ 16) (some : 0 < count) (within : head ≤ limits.head) (fits : head ≤ w)
    (zeros_low : zeros ≤ limits.zeros) (zeros_fit : head + zeros ≤ w) (zeros_most : (n : ℕ) → n ≤ limits.zeros → head + n ≤ w → n ≤ zeros)
    (full_low : full ≤ limits.tail) (full_fit : head + full ≤ w) (full_most : (n : ℕ) → n ≤ limits.tail → head + n ≤ w → n ≤ full) where
  abbrev one : Choice
  one = plain w count head

  abbrev two : Choice
  two = with_zeros w count head zeros

  abbrev three : Choice
  three = with_full w count head full

  abbrev first : Choice
  first = cheaper w count one two

  abbrev least : Choice
  least = cheaper w count first three

  abbrev IsOf : Choice → Type 0
  IsOf c = HasHead w limits head c × (choice_rank c ≤ choice_rank three)

  first_is : IsOf first
  first_is = grind (arith, common_steps, cheaper_either)

  first_least : (weight w count first ≤ weight w count one) × (weight w count first ≤ weight w count two)
  first_least = cheaper_least w count one two small (omega arith) zeros_fit (omega arith)

  all_least : (weight w count least ≤ weight w count first) × (weight w count least ≤ weight w count three)
  all_least = cheaper_least w count first three small first_is.0.1.fits full_fit first_is.1

  least_tail : (t : TailForm) → IsWithinLimits w limits (record { head = head; tail = t }) → weight w count least ≤ weight w count (record { head = head; tail = t })
  least_tail tails.Absent h = omega (arith, all_least.0, first_least.0)
  least_tail (tails.Zeros n) h =
      let lighter = zeros_lighter w count head n zeros some (zeros_most n h.tail h.fits) (omega (arith, zeros_fit)) zeros_fit in
      omega (arith, all_least.0, first_least.1, lighter)
  least_tail (tails.Full n) h = either (ltb 1 count) refl where
    either : (q : Bool) → ltb 1 count ≡ q → weight w count least ≤ weight w count (with_full w count head n)
    either true e =
        let lighter = full_lighter w count head n full (ltb-true _ _ e) (full_most n h.tail h.fits) (omega (arith, full_fit)) full_fit in
        omega (arith, all_least.1, lighter)
    either false e =
        let le : count ≤ 1 = ltb-false _ _ e in
        let lighter = plain_lighter w count head n (omega (arith, le, some)) h.fits in
        omega (arith, all_least.0, first_least.0, lighter)

  pub best_of_head : IsBestOf w count (HasHead w limits head) least
  best_of_head = grind (arith, common_steps, cheaper_either, first_is, least_tail)
