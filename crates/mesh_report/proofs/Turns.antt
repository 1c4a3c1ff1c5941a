-- Places of lanes that are taken in turn from two vectors.
use Rattle.mesh_report.proofs.Common.{◌≡◌, ℕ, ◌+◌, ◌*◌, ◌<◌, List, [], ◌∷◌, refl, Bool, true, ◌&&◌, nat_eq, slice_index, eqb-true, and_parts as both}
use Rattle.mesh_report.proofs.Tables.{all_below, below}

abbrev pub turns : List ℕ
turns =
    0 ∷ 16 ∷ 1 ∷ 17 ∷ 2 ∷ 18 ∷ 3 ∷ 19 ∷ 4 ∷ 20 ∷ 5 ∷ 21 ∷ 6 ∷ 22 ∷ 7 ∷ 23 ∷ 8 ∷ 24 ∷ 9 ∷ 25 ∷ 10 ∷ 26 ∷ 11 ∷ 27 ∷ 12 ∷ 28 ∷ 13 ∷ 29 ∷ 14 ∷ 30 ∷ 15 ∷ 31 ∷ []

in_turn : ℕ → Bool
in_turn k = nat_eq (slice_index turns (2 * k)) k && nat_eq (slice_index turns (2 * k + 1)) (16 + k)

all_in_turn : all_below in_turn 16 ≡ true
unfolding in_turn
all_in_turn = refl

pub first_turn : (k : ℕ) → k < 16 → slice_index turns (2 * k) ≡ k
unfolding in_turn
first_turn k lt = eqb-true _ _ (both _ _ (below in_turn 16 all_in_turn k lt)).0

pub second_turn : (k : ℕ) → k < 16 → slice_index turns (2 * k + 1) ≡ 16 + k
unfolding in_turn
second_turn k lt = eqb-true _ _ (both _ _ (below in_turn 16 all_in_turn k lt)).1
