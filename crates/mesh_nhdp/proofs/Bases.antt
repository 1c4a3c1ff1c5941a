-- The bases of interfaces, by place.
use Rattle.mesh_nhdp.proofs.Common.{◌≡◌, ℕ, ◌<◌, ◌≤◌, ◌⊎◌, inl, inr, sym, ◌∙◌, ap, List, [], length, slice_get, Some, get_or_past, slice_get_cases, get_or_from_slice_get, Base, base_of, find, none_not}

-- there is a base at the place, or it is past the last
pub base_cases : {K V : Type 0} (bases : List (Base K V)) (i : ℕ) → ((i < length bases) × (slice_get bases i ≡ Some (base_of bases i))) ⊎ ((length bases ≤ i) × (base_of bases i ≡ []))
base_cases {K} {V} bases i = elim ((slice_get_cases bases i).1) [
  | inl there ↦ inl (there.1, there.2 ∙ ap (λ (b : Base K V). Some b) (sym (get_or_from_slice_get bases i there.0 [] there.2)))
  | inr past ↦ inr (past.0, get_or_past bases i [] past.0)
]

-- a tuple stands in the base of an interface
pub within_bases : {K V : Type 0} (eq : K → K → _) (bases : List (Base K V)) (i : ℕ) (key : K) (e : V × ℕ) → find eq (base_of bases i) key ≡ Some e → slice_get bases i ≡ Some (base_of bases i)
within_bases {K} {V} eq bases i key e is = elim (base_cases bases i) [
  | inl there ↦ there.1
  | inr past ↦ none_not (ap (λ (b : Base K V). find eq b key) past.1) is
]
