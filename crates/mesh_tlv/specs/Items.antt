-- Items of any kind, one after the other, that fill a range of a frame: TLVs, messages, address blocks with their TLVs.
use Rattle.std.specs.Prelude.{◌≡◌, ℕ, zero, suc, ◌+◌, ◌<◌, List, [], ◌∷◌, ◌++◌, length, map, slice_range, Ok, ◌==◌, if◌then◌else◌}
use Rattle.mesh_atoms.specs.declared.refusal.Refusal.{Refusal}
use Rattle.mesh_atoms.specs.Reading.{◌>>=◌, Reading}

-- the octets that spell one item after the other
abbrev pub SpellsItems : {A : Type 0} → (A → List ℕ → Type 0) → List A → List ℕ → Type 0
SpellsItems Spells [] bytes = bytes ≡ []
SpellsItems Spells (x ∷ xs) bytes = (text : List ℕ) × (rest : List ℕ) × Spells x text × SpellsItems Spells xs rest × (bytes ≡ text ++ rest)

-- The first fault, so many octets on and for this reason: some items are spelled, and the one behind them has its first
-- fault, counted from where it begins.
pub record ItemsFault {A : Type 0} (Spells : A → List ℕ → Type 0) (Fault : List ℕ → ℕ → ℕ → Type 0) (bytes : List ℕ)
    (distance reason : ℕ) : Type 0 where
  pub before : List A
  pub front : List ℕ
  pub rest : List ℕ
  pub inside : ℕ
  pub spelled : SpellsItems Spells before front
  pub fault : Fault rest inside reason
  pub some : 0 < length rest
  pub whole : bytes ≡ front ++ rest
  pub distance_is : distance ≡ length front + inside

-- what begins at `at` and may go up to `end` has this first fault, its place counted from the start of the frame
abbrev pub FirstFaultAt : (List ℕ → ℕ → ℕ → Type 0) → List ℕ → ℕ → ℕ → Refusal → Type 0
FirstFaultAt Fault frame at end refusal =
    (distance : ℕ) × (refusal.place ≡ at + distance) × Fault (slice_range frame at end) distance refusal.reason

-- how items are read, at most so many of them, from a place up to the end of the range
unfoldable pub items_at : {A : Type 0} → (ℕ → ℕ → Reading A) → ℕ → ℕ → ℕ → Reading (List A)
items_at one zero at end = Ok ([], at)
items_at one (suc n) at end =
    if at == end then Ok ([], at) else (one at end >>= λ first. items_at one n first.1 end >>= λ others. Ok (first.0 ∷ others.0, others.1))

-- what was read, by its fields, and the place after it
abbrev pub by_fields : {X Y : Type 0} → (X → Y) → X × ℕ → Y × ℕ
by_fields fields x = (fields x.0, x.1)

-- the same of a list
abbrev pub all_by_fields : {X Y : Type 0} → (X → Y) → List X × ℕ → List Y × ℕ
all_by_fields fields = by_fields (map fields)
