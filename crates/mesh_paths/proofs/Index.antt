-- Arcs as runs, in the order of the nodes that they leave.
use Rattle.mesh_paths.proofs.Common.{common_steps, ◌≡◌, ℕ, ◌+◌, ◌-◌, ◌<◌, ◌≤◌, ◌++◌, inl, inr, refl, sym, ◌∙◌, ap, subst, arith, true, false, List, [], ◌∷◌, length, Contains, slice_index_or, take, drop, leb, ltb, leb-true, length-take, slice_range, IsPermutation, IsPartitionPoint, cases_lt, ltb-true, ltb-false, leb-false, get_or_default, get_or-take, get_or-drop, length-drop, Contains-push_cases, Contains-append_left, Contains-append_right, Contains-permutation, IsPermutation-sym, NetAddr, Arc4, same_net, ArcRun, number_of, number_from, IsRun, IsIndex, IsPart}

pub at_place : {X : Type 0} (xs : List X) (i : ℕ) (d : X) → i < length xs → slice_index_or xs i d ≡ slice_index_or xs i (slice_index_or xs i d)
at_place xs i d l = get_or_default xs i d (slice_index_or xs i d) l

-- A run grows

abbrev pub IsLeft : List Arc4 → ℕ → ℕ → ℕ → Type 0
IsLeft arcs number start end = (k : ℕ) (d : Arc4) → start ≤ k → k < end → number_from (slice_index_or arcs k d) ≡ number

-- The runs of all arcs

-- the runs hold the arcs before a place
pub record IsUpto (arcs : List Arc4) (runs : List ArcRun) (place : ℕ) : Type 0 where
  pub each : (r : ArcRun) → Contains runs r → IsRun arcs r
  pub all : (k : ℕ) → k < place → (r : ArcRun) × Contains runs r × (r.start ≤ k) × (k < r.end)

pub upto_more : (arcs : List Arc4) (runs runs' : List ArcRun) (run : ArcRun) (place : ℕ) → runs' ≡ runs ++ (run ∷ []) → IsRun arcs run → run.start ≡ place → IsUpto arcs runs place → IsUpto arcs runs' run.end
upto_more arcs runs runs' run place pushed is begins before = subst (λ (x : List ArcRun). IsUpto arcs x run.end) (sym pushed) (record { each = each; all = all })
  where
    each : (r : ArcRun) → Contains (runs ++ (run ∷ [])) r → IsRun arcs r
    each r has = elim (Contains-push_cases runs run r has) [
      | inl old ↦ before.each r old
      | inr same ↦ subst (λ (x : ArcRun). IsRun arcs x) same is
    ]

    all : (k : ℕ) → k < run.end → (r : ArcRun) × Contains (runs ++ (run ∷ [])) r × (r.start ≤ k) × (k < r.end)
    all k l = elim (cases_lt k place) [
      | inl less ↦ let (r, has, low, high) = before.all k less in (r, Contains-append_left runs (run ∷ []) r has, low, high)
      | inr upto ↦ (run, Contains-append_right runs (run ∷ []) run (0, omega arith, refl), omega arith, l)
    ]

pub index_moved : (arcs : List Arc4) (runs moved : List ArcRun) → IsPermutation runs moved → IsIndex arcs runs → IsIndex arcs moved
index_moved arcs runs moved same index = record {
  each = λ r has. index.each r (Contains-permutation moved runs r (IsPermutation-sym runs moved same) has);
  all = λ k l. let (r, has, low, high) = index.all k l in (r, Contains-permutation runs moved r same has, low, high);
}

-- The arcs of a run

pub in_run : (arcs : List Arc4) (start end k : ℕ) (a : Arc4) → start ≤ k → k < end → end ≤ length arcs → slice_index_or arcs k a ≡ a → Contains (slice_range arcs start end) a
in_run arcs start end k a low high inside e =
    let place : start + (k - start) ≡ k = omega arith in (
      k - start,
      omega (arith, length-take (end - start) (drop start arcs), length-drop start arcs),
      get_or-take (end - start) (drop start arcs) (k - start) a (omega arith) ∙ (get_or-drop start arcs (k - start) a ∙ (ap (λ (n : ℕ). slice_index_or arcs n a) place ∙ e)),
    )

place_in : (arcs : List Arc4) (start end : ℕ) (a : Arc4) → start ≤ end → end ≤ length arcs → Contains (slice_range arcs start end) a → (k : ℕ) × (start ≤ k) × (k < end) × (slice_index_or arcs k a ≡ a)
place_in arcs start end a upto inside (k, l, e) = grind (arith, common_steps, length-take, drop, length-drop, get_or-drop, get_or-take)

pub from_run : (arcs : List Arc4) (run : ArcRun) (a : Arc4) → IsRun arcs run → Contains (slice_range arcs run.start run.end) a → Contains arcs a
from_run arcs run a is has = let (k, low, high, e) = place_in arcs run.start run.end a is.upto is.inside has in (k, omega (arith, is.inside), e)

-- nodes are known by their numbers
node_by_number : (a b : NetAddr) → number_of a ≡ number_of b → a ≡ b
node_by_number a b e = grind (arith, common_steps, same_net)

pub leaves_node : (arcs : List Arc4) (run : ArcRun) (node : NetAddr) (a : Arc4) → IsRun arcs run → run.number ≡ number_of node → Contains (slice_range arcs run.start run.end) a → a.from ≡ node
leaves_node arcs run node a is number has = grind (arith, common_steps, place_in, node_by_number)

-- The runs of a number: from the first whose number is no less, as long as none is greater
module _ (runs rest part : List ArcRun) (number start end : ℕ)
    (from_start : IsPartitionPoint (λ (r : ArcRun). ltb r.number number ≡ true) (λ (r : ArcRun). ltb r.number number ≡ false) runs start)
    (to_end : IsPartitionPoint (λ (r : ArcRun). leb r.number number ≡ true) (λ (r : ArcRun). leb r.number number ≡ false) rest end)
    (bound : start ≤ length runs) (bound_end : end ≤ length rest) (is_rest : rest ≡ drop start runs) (is_part : part ≡ take end rest) where
  long_rest : length rest + start ≡ length runs
  long_rest = let e : length rest ≡ length (drop start runs) = ap (λ (x : List ArcRun). length x) is_rest in omega (arith, length-drop start runs)

  long_part : length part ≡ end
  long_part = let e : length part ≡ length (take end rest) = ap (λ (x : List ArcRun). length x) is_part in omega (arith, length-take end rest)

  at_rest : (k : ℕ) (d : ArcRun) → slice_index_or rest k d ≡ slice_index_or runs (start + k) d
  at_rest k d = ap (λ (x : List ArcRun). slice_index_or x k d) is_rest ∙ get_or-drop start runs k d

  at_part : (k : ℕ) (d : ArcRun) → k < end → slice_index_or part k d ≡ slice_index_or rest k d
  at_part k d l = ap (λ (x : List ArcRun). slice_index_or x k d) is_part ∙ get_or-take end rest k d l

  has : (r : ArcRun) → Contains part r → Contains runs r
  has r (k, l, e) = (start + k, omega (arith, long_part, long_rest), sym (at_rest k r) ∙ (sym (at_part k r (omega (arith, long_part))) ∙ e))

  is : (r : ArcRun) → Contains part r → r.number ≡ number
  is r (k, l, e) = grind (arith, common_steps, slice_index_or, at_part, long_part, at_rest, ltb-false, ltb, long_rest, leb-true, leb)

  all : (r : ArcRun) → Contains runs r → r.number ≡ number → Contains part r
  all r (k, l, e) same = elim (cases_lt k start) [
    | inl before ↦
        let less : r.number < number = ltb-true r.number number (subst (λ (x : ArcRun). ltb x.number number ≡ true) e (from_start.0 k r (omega arith) before)) in
        absurd (omega arith)
    | inr from ↦
        let place : start + (k - start) ≡ k = omega arith in
        let here : slice_index_or rest (k - start) r ≡ r = at_rest (k - start) r ∙ (ap (λ (n : ℕ). slice_index_or runs n r) place ∙ e) in
        elim (cases_lt (k - start) end) [
          | inl inside ↦ (k - start, omega (arith, long_part), at_part (k - start) r inside ∙ here)
          | inr after ↦
              let more : number < r.number = leb-false r.number number (subst (λ (x : ArcRun). leb x.number number ≡ false) here (to_end.1 (k - start) r after (omega (arith, long_rest)))) in
              absurd (omega arith)
        ]
  ]

  pub part_of : IsPart runs number part
  part_of = record { has = has; is = is; all = all }
