-- The output of a command, piece by piece.
use Rattle.std.specs.Prelude.{◌≡◌, ℕ, List, [], ◌∷◌, ◌++◌, take, Option, Some, None, Result, Ok, Err}
use Rattle.std.specs.List.{concat}
use Rattle.std.specs.Io.KnownBytes.{Appends}
use Rattle.mesh_io.specs.Faults.{Rose}
use Rattle.mesh_io.specs.declared.stop.Stop.{Stop}
use Rattle.mesh_io.specs.declared.stop.Stop.TheVariants as stop

-- A relation says what a command makes: `Makes pieces (Some answer)` that these are all its pieces, and that this is its answer;
-- `Makes pieces None` that these are some first ones, and that more are to come.

-- a command makes one piece, the text of its answer, and nothing before it
abbrev pub MakesOne : {A : Type 0} → (A → List ℕ → Type 0) → List (List ℕ) → Option A → Type 0
MakesOne IsText pieces (Some answer) = (text : List ℕ) × IsText answer text × (pieces ≡ text ∷ [])
MakesOne IsText pieces None = pieces ≡ []

-- all pieces were put
abbrev pub PutsAll : {A : Type 0} → (List (List ℕ) → Option A → Type 0) → Option (List ℕ) → Option (List ℕ) → A → Type 0
PutsAll Makes content content' answer =
    (pieces : List (List ℕ)) × Makes pieces (Some answer) × Appends content content' (concat pieces)

-- the write of a piece failed: the pieces before it were put, and then a prefix of it
abbrev pub PutsFront : {A : Type 0} → (List (List ℕ) → Option A → Type 0) → Option (List ℕ) → Option (List ℕ) → ℕ → ℕ → Type 0
PutsFront {A} Makes content content' faults faults' =
    Rose faults faults'
    × (pieces : List (List ℕ)) × (piece : List ℕ) × (answer : Option A) × Makes (pieces ++ piece ∷ []) answer
    × (n : ℕ) × Appends content content' (concat pieces ++ take n piece)

-- an allocation failed: the pieces that were made were put, and more were to come
abbrev pub PutsSome : {A : Type 0} → (List (List ℕ) → Option A → Type 0) → Option (List ℕ) → Option (List ℕ) → Type 0
PutsSome Makes content content' =
    (pieces : List (List ℕ)) × Makes pieces None × Appends content content' (concat pieces)

-- what a command puts on a sink, by what it answers
abbrev pub PutsPieces : {A : Type 0} → (List (List ℕ) → Option A → Type 0) → Option (List ℕ) → Option (List ℕ) → ℕ → ℕ → Result A Stop
    → Type 0
PutsPieces Makes content content' faults faults' (Ok answer) = PutsAll Makes content content' answer
PutsPieces Makes content content' faults faults' (Err stop.Write) = PutsFront Makes content content' faults faults'
PutsPieces Makes content content' faults faults' (Err stop.Memory) = PutsSome Makes content content'
