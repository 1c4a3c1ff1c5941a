-- How far head, tail and zeros of a block reach.
use Rattle.mesh_addr.proofs.Common.{common_steps, ◌≡◌, ℕ, ◌+◌, ◌-◌, ◌≤◌, Bool, true, false, List, take, drop, sym, ap, ◌∙◌, arith, slice_range, not, take-take, drop-take, drop-drop, drop-replicate, not-false, RawAddr, EndsInZeros, IsLimit}
use Rattle.std.specs.Str.{bytes_eq}
use Rattle.std.proofs.lemmas.Slice.Eq.{bytes_eq-Decides}
use Rattle.mesh_atoms.proofs.Options.{not_both}
use Rattle.mesh_addr.proofs.Padding.{zeros}

-- what a test for a difference told
pub is_same : (r : Bool) (xs ys : List ℕ) → r ≡ not (bytes_eq xs ys) → r ≡ false → xs ≡ ys
is_same r xs ys e equal = (bytes_eq-Decides xs ys).0 (not-false (bytes_eq xs ys) (sym e ∙ equal))

pub is_other : (r : Bool) (xs ys : List ℕ) → r ≡ not (bytes_eq xs ys) → r ≡ true → xs ≡ ys → ⊥
is_other r xs ys e differ same = not_both (bytes_eq xs ys) ((bytes_eq-Decides xs ys).1 same) (sym e ∙ differ)

-- one less, where the fact doesn't hold yet
pub one_less : (most len : ℕ) (P : ℕ → Type 0) → ((n : ℕ) → n ≤ most → P n → n ≤ len) → (P len → ⊥) → (n : ℕ) → n ≤ most → P n → n ≤ len - 1
one_less most len P h fails n le p = grind (arith, common_steps)

-- the fact holds, and of less as well
pub limit_found : (most len : ℕ) (P : ℕ → Type 0) → len ≤ most → ((n : ℕ) → n ≤ most → P n → n ≤ len) → P len → ((n : ℕ) → n ≤ len → P len → P n) → IsLimit most P len
limit_found most len P le h p less = record { within = le; below = λ n small. less n small p; greatest = h }

pub take_less : (xs ys : List ℕ) (n m : ℕ) → n ≤ m → take m xs ≡ take m ys → take n xs ≡ take n ys
take_less xs ys n m le e = sym (take-take n m xs le) ∙ ap (take n) e ∙ take-take n m ys le

-- the last octets of the last ones
last_less : (xs : List ℕ) (w n m : ℕ) → n ≤ m → m ≤ w → slice_range xs (w - n) w ≡ drop (m - n) (slice_range xs (w - m) w)
last_less xs w n m le le' =
    let all : w - (w - m) ≡ (m - n) + n = omega arith in
    let less : w - (w - n) ≡ n = omega arith in
    let from : (w - m) + (m - n) ≡ w - n = omega arith in
    ap (λ (k : ℕ). take k (drop (w - n) xs)) less ∙ ap (λ (i : ℕ). take n (drop i xs)) (sym from) ∙ ap (take n) (sym (drop-drop (m - n) (w - m) xs))
    ∙ sym (drop-take (m - n) n (drop (w - m) xs)) ∙ ap (λ (k : ℕ). drop (m - n) (take k (drop (w - m) xs))) (sym all)

pub tails_less : (xs ys : List ℕ) (w n m : ℕ) → n ≤ m → m ≤ w → slice_range xs (w - m) w ≡ slice_range ys (w - m) w → slice_range xs (w - n) w ≡ slice_range ys (w - n) w
tails_less xs ys w n m le le' e = last_less xs w n m le le' ∙ ap (drop (m - n)) e ∙ sym (last_less ys w n m le le')

pub zeros_less : (a : RawAddr) (w n m : ℕ) → n ≤ m → m ≤ w → EndsInZeros w a m → EndsInZeros w a n
zeros_less a w n m le le' e = last_less a.octets w n m le le' ∙ ap (drop (m - n)) e ∙ drop-replicate {X = ℕ} (m - n) m 0 ∙ ap zeros (omega arith)
