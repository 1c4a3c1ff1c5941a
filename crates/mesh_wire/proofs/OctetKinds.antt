-- Laws of the types of address TLV whose values are one octet, by their list.
use Rattle.mesh_wire.proofs.Common.{common_steps, ◌≡◌, ℕ, ◌+◌, ap, ◌∙◌, arith, List, [], ◌∷◌, Decides, Contains, Some, slice_get, ◌==◌, if◌then◌else◌, OctetKind, LINK_METRIC, kinds, statuses, type_of, IsStatusType, at, by_kind, list_any, Decides-some, contains_at, same_some}
use Rattle.std.proofs.lemmas.Bool.Decides.{Decides-eqb}

-- the place of the first of that number
unfoldable pub place_of : ℕ → List OctetKind → ℕ
place_of n [] = 0
place_of n (k ∷ ks) = if n == type_of k then 0 else 1 + place_of n ks

at_place : (k : OctetKind) → slice_get kinds (place_of (type_of k) kinds) ≡ Some k
unfolding place_of
at_place k = grind (arith, common_steps)

pub each_kind : (k : OctetKind) → Contains kinds k
each_kind k = contains_at kinds (place_of (type_of k) kinds) k (at_place k)

-- each has a number of its own
pub same_type : (a b : OctetKind) → type_of a ≡ type_of b → a ≡ b
same_type a b e = same_some (at_place a) (ap (λ (n : ℕ). slice_get kinds (place_of n kinds)) e ∙ at_place b)

pub not_metric : (k : OctetKind) → type_of k ≡ LINK_METRIC → ⊥
not_metric k e = grind (arith, common_steps)

pub at_by_kind : {T : Type 0} (f : OctetKind → T) (k : OctetKind) → at k (by_kind f) ≡ f k
at_by_kind f k = grind (arith, common_steps)

-- a status is found by its number
pub status_found : (type : ℕ) → Decides (list_any (λ (kind : OctetKind). type == type_of kind) statuses) (IsStatusType type)
status_found type = Decides-some (λ (kind : OctetKind). type == type_of kind) (λ kind. type ≡ type_of kind) (λ kind. Decides-eqb type (type_of kind)) statuses
