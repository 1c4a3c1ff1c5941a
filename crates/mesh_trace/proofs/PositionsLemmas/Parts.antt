-- Rows are cut into parts in one way, and a series has one next moment.
use Rattle.mesh_trace.proofs.Common.{common_steps, ◌≡◌, ℕ, suc, ◌+◌, ◌-◌, ◌<◌, ◌≤◌, refl, sym, ◌∙◌, ap, subst, arith, List, [], ◌∷◌, ◌++◌, length, length-append, Some, slice_get, flat_map, append-nil, AreParts, TcRow, IsNextMoment}

-- ---- moments

pub moment_once : (start interval now one other : ℕ) → IsNextMoment start interval now one → IsNextMoment start interval now other → one ≡ other
moment_once start interval now one other h k = grind (arith, common_steps)

-- ---- parts

abbrev joined : List (List TcRow) → List TcRow
joined parts = flat_map (λ part. part) parts

-- the same by recursion: each part but the last is full, and the last isn't empty where there are others
Cut : ℕ → List (List TcRow) → Type 0
Cut most [] = ⊥
Cut most (part ∷ []) = (length part ≤ most) × (0 < length part)
Cut most (part ∷ (next ∷ more)) = (length part ≡ most) × Cut most (next ∷ more)

some_rows : (most : ℕ) → 0 < most → (parts : List (List TcRow)) → Cut most parts → 0 < length (joined parts)
unfolding Cut
some_rows most some [] cut = absurd cut
some_rows most some (part ∷ []) cut = let l = length-append part [] in let (few, has) = cut in omega (arith, l, has)
some_rows most some (part ∷ (next ∷ more)) cut = grind (arith, common_steps)

-- texts of the same length in front
same_fronts : (a b x y : List TcRow) → length a ≡ length b → a ++ x ≡ b ++ y → (a ≡ b) × (x ≡ y)
same_fronts [] [] x y same e = (refl, e)
same_fronts [] (d ∷ b) x y same e = absurd (omega (arith, same))
same_fronts (c ∷ a) [] x y same e = absurd (omega (arith, same))
same_fronts (c ∷ a) (d ∷ b) x y same e = grind (arith, common_steps, same_fronts a b x y)

cut_once : (most : ℕ) → 0 < most → (xs ys : List (List TcRow)) → Cut most xs → Cut most ys → joined xs ≡ joined ys → xs ≡ ys
unfolding Cut
cut_once most some [] ys cut cut' same = absurd cut
cut_once most some (x ∷ xs) [] cut cut' same = absurd cut'
cut_once most some (x ∷ []) (y ∷ []) cut cut' same = ap (λ (p : List TcRow). p ∷ []) (sym (append-nil x) ∙ (same ∙ append-nil y))
cut_once most some (x ∷ []) (y ∷ (z ∷ ys)) cut cut' same = grind (arith, common_steps, length-append, length, some_rows)
cut_once most some (x ∷ (z ∷ xs)) (y ∷ []) cut cut' same = grind (arith, common_steps, length-append, length, some_rows)
cut_once most some (x ∷ (z ∷ xs)) (y ∷ (w ∷ ys)) cut cut' same =
    let (full, rest) = cut in
    let (full', rest') = cut' in
    let (fronts, behind) = same_fronts x y (joined (z ∷ xs)) (joined (w ∷ ys)) (full ∙ sym full') same in
    ap (λ (p : List TcRow). p ∷ (z ∷ xs)) fronts ∙ ap (λ (l : List (List TcRow)). y ∷ l) (cut_once most some (z ∷ xs) (w ∷ ys) rest rest' behind)

-- parts of some rows, by recursion
cut_of : (most : ℕ) (parts : List (List TcRow)) → 0 < length parts → ((i : ℕ) (part : List TcRow) → slice_get parts i ≡ Some part → i + 1 < length parts → length part ≡ most) →
    ((part : List TcRow) → slice_get parts (length parts - 1) ≡ Some part → (length part ≤ most) × (0 < length part)) → Cut most parts
unfolding Cut
cut_of most [] has full last = absurd (omega (arith, has))
cut_of most (part ∷ []) has full last = last part refl
cut_of most (part ∷ (next ∷ more)) has full last = (
  full 0 part refl (omega arith),
  cut_of most (next ∷ more) (omega arith)
      (λ i p at less. full (suc i) p at (omega (arith, less)))
      (λ p at. let place : length (part ∷ (next ∷ more)) - 1 ≡ suc (length (next ∷ more) - 1) = omega arith in
      last p (subst (λ (k : ℕ). slice_get (part ∷ (next ∷ more)) k ≡ Some p) (sym place) at)),
)

some_of : (rows : List TcRow) → (rows ≡ [] → ⊥) → 0 < length rows
some_of rows other = grind (arith, common_steps)

cut_some : (most : ℕ) (rows : List TcRow) (parts : List (List TcRow)) → (rows ≡ [] → ⊥) → AreParts most rows parts → Cut most parts
cut_some most rows parts other are = cut_of most parts are.some are.full (λ part at. (are.last part at, some_of part (λ none. other (are.no_more part at none))))

-- no rows are one part without rows
alone : (most : ℕ) → 0 < most → (parts : List (List TcRow)) → AreParts most [] parts → parts ≡ [] ∷ []
alone most some [] are = let has = are.some in absurd (omega (arith, has))
alone most some (part ∷ []) are = ap (λ (p : List TcRow). p ∷ []) (sym (append-nil part) ∙ are.whole)
alone most some (part ∷ (next ∷ more)) are =
    let full = are.full 0 part refl (omega arith) in
    let l = length-append part (joined (next ∷ more)) in
    let none = ap (λ (l : List TcRow). length l) are.whole in
    absurd (omega (arith, full, l, none, some))

pub parts_once : (most : ℕ) → 0 < most → (rows : List TcRow) (xs ys : List (List TcRow)) → AreParts most rows xs → AreParts most rows ys → xs ≡ ys
parts_once most some [] xs ys one other = alone most some xs one ∙ sym (alone most some ys other)
parts_once most some (r ∷ rows) xs ys one other =
    cut_once most some xs ys (cut_some most (r ∷ rows) xs (λ none. absurd cc) one) (cut_some most (r ∷ rows) ys (λ none. absurd cc) other) (one.whole ∙ sym other.whole)
