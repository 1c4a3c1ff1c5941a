-- The known keys of a table, one after the other.
use Rattle.mesh_config.proofs.Common.{◌≡◌, ℕ, List, ◌∷◌, Bool, true, false, Some, string_bytes, members_view, Entry, first_unknown}

-- a known key is passed
pub passes_known : (is_known : List ℕ → Bool) (es rest : List Entry) (e : Entry) (name : List ℕ) (b : Bool) → es ≡ e ∷ rest → name ≡ string_bytes e.0
    → b ≡ is_known name → b ≡ true → first_unknown is_known (members_view es) ≡ first_unknown is_known (members_view rest)
passes_known is_known es rest e name b all named known kept = rw (all, ← named, ← known, kept)

-- an unknown one is the first
pub finds_unknown : (is_known : List ℕ → Bool) (es rest : List Entry) (e : Entry) (name : List ℕ) (b : Bool) → es ≡ e ∷ rest → name ≡ string_bytes e.0
    → b ≡ is_known name → b ≡ false → first_unknown is_known (members_view es) ≡ Some name
finds_unknown is_known es rest e name b all named known kept = rw (all, ← named, ← known, kept)
