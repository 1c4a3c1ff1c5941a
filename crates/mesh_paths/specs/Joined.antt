-- The routers that are joined with one, by the parts of the radio graph.
use Rattle.std.specs.Prelude.{◌≡◌, ◌≢◌, ℕ, List, Bool, Some, not, ◌&&◌, nat_eq, nat_lt, length, slice_get, slice_index}

-- router w is another one, in the part of router x
abbrev pub is_joined : List ℕ → ℕ → ℕ → Bool
is_joined parts x w =
    not (nat_eq w x) && (nat_lt x (length parts)
    && (nat_lt w (length parts) && nat_eq (slice_index parts x) (slice_index parts w)))

-- router w is another one, and the list has one part for both
abbrev pub ShareAPart : List ℕ → ℕ → ℕ → Type 0
ShareAPart parts x w = (w ≢ x) × (part : ℕ) × (slice_get parts x ≡ Some part) × (slice_get parts w ≡ Some part)
