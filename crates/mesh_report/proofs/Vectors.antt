-- Vectors, lane by lane.
use Rattle.mesh_report.proofs.Common.{common_steps, ◌≡◌, ℕ, ◌/◌, ◌%◌, ◌^◌, ◌<◌, Bool, false, cond, List, length, map, get_or, replicate, sym, ap, subst, ◌∙◌, arith, w8, zip2, sel_l, mask_l, top, pick_l, length-zip2, get_or-zip2, get_or-replicate, length-sel_l, get_or-sel_l, bit_mask_l, tops_compared, get_or-map}
use Rattle.std.proofs.Math.Nat.{zero-div}
use Rattle.mesh_report.specs.Lanes.{HasLanes}

-- an operator on two vectors
pub lanes_of : (n : ℕ) (f : ℕ → ℕ → ℕ) (xs ys : List ℕ) → length xs ≡ n → length ys ≡ n → HasLanes n (zip2 f xs ys) (λ k. f (get_or xs k 0) (get_or ys k 0))
lanes_of n f xs ys p q = record {
  len = length-zip2 f xs ys (p ∙ sym q) ∙ p;
  each = λ k lt. get_or-zip2 f xs ys k 0 0 0 (omega (arith, lt, p)) (omega (arith, lt, q));
}

-- an operator on a vector and a number
pub lanes_with : (n : ℕ) (f : ℕ → ℕ → ℕ) (xs : List ℕ) (y : ℕ) → length xs ≡ n → length (replicate n y) ≡ n → HasLanes n (zip2 f xs (replicate n y)) (λ k. f (get_or xs k 0) y)
lanes_with n f xs y p q = grind (arith, common_steps, lanes_of)

-- a choice by a comparison with a number
pub lanes_chosen : (n : ℕ) (t : ℕ → ℕ → Bool) (v : List ℕ) (y : ℕ) (low high : List ℕ) → length v ≡ n → length low ≡ n → length high ≡ n → length (replicate n y) ≡ n
    → HasLanes n (sel_l (map (top 7) (zip2 (λ a b. cond (t a b) 255 0) v (replicate n y))) low high) (λ k. cond (t (get_or v k 0) y) (get_or low k 0) (get_or high k 0))
lanes_chosen n t v y low high p q r s =
    let long : length (zip2 t v (replicate n y)) ≡ n = length-zip2 t v (replicate n y) (p ∙ sym s) ∙ p in
    subst (λ (ms : List Bool). HasLanes n (sel_l ms low high) (λ k. cond (t (get_or v k 0) y) (get_or low k 0) (get_or high k 0))) (sym (tops_compared w8 t v (replicate n y))) (record {
      len = length-sel_l (zip2 t v (replicate n y)) low high (long ∙ sym q) (long ∙ sym r) ∙ long;
      each = λ k lt.
          get_or-sel_l (zip2 t v (replicate n y)) low high k 0 (omega (arith, lt, long)) (omega (arith, lt, q)) (omega (arith, lt, r))
          ∙ ap (λ (b : Bool). cond b (get_or low k 0) (get_or high k 0)) (get_or-zip2 t v (replicate n y) k 0 0 false (omega (arith, lt, p)) (omega (arith, lt, s)) ∙ ap (t (get_or v k 0)) (get_or-replicate n k y 0 lt));
    })

-- the lane that is taken to a place
pub picked : (xs places : List ℕ) (j place : ℕ) → j < length places → get_or places j 0 ≡ place → get_or (pick_l 0 xs places) j 0 ≡ get_or xs place 0
picked xs places j place lt is = get_or-map (λ k. get_or xs k 0) places j 0 0 lt ∙ ap (λ (k : ℕ). get_or xs k 0) is

unset : (b : Bool) → cond {A = ℕ} b 1 0 ≡ 0 → b ≡ false
unset b e = grind (arith, common_steps)

-- where a mask has no bit, no lane passes
pub none_set : (p : ℕ → Bool) (v : List ℕ) (k : ℕ) → mask_l (map p v) ≡ 0 → k < length v → p (get_or v k 0) ≡ false
none_set p v k none lt =
    let bit : cond {A = ℕ} (get_or (map p v) k false) 1 0 ≡ 0 = sym (bit_mask_l (map p v) k) ∙ ap (λ (n : ℕ). n / 2 ^ k % 2) none ∙ ap (λ (n : ℕ). n % 2) (zero-div (2 ^ k)) in
    sym (get_or-map p v k 0 false lt) ∙ unset (get_or (map p v) k false) bit
