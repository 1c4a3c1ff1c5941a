-- Of several values: none, one, or different ones.
use Rattle.std.specs.Prelude.{◌≡◌, List, [], ◌∷◌, Option, Some, None, Bool, true, false, if◌then◌else◌}
use Rattle.mesh_wire.specs.declared.singles.Single.{Single}
use Rattle.mesh_wire.specs.declared.singles.Single.TheVariants.{Absent, Value, Conflict}

-- one value more, by what tells values from each other
abbrev pub also : {X : Type 0} → (X → X → Bool) → Single X → X → Single X
also same Absent x = Value x
also same (Value first) x = if same first x then Value first else Conflict
also same Conflict x = Conflict

-- one value more, if there is one
abbrev pub also_some : {X : Type 0} → (X → X → Bool) → Single X → Option X → Single X
also_some same one None = one
also_some same one (Some x) = also same one x

-- different values
abbrev pub is_conflict : {X : Type 0} → Single X → Bool
is_conflict Absent = false
is_conflict (Value x) = false
is_conflict Conflict = true

-- some value
abbrev pub is_said : {X : Type 0} → Single X → Bool
is_said Absent = false
is_said (Value x) = true
is_said Conflict = true

-- the one value
abbrev pub value_from : {X : Type 0} → Single X → Option X
value_from Absent = None
value_from (Value x) = Some x
value_from Conflict = None

-- a list has none, one or more, and the one is seen as the value of the list
abbrev pub IsSingleOf : {X T : Type 0} → Single T → (T → X) → List X → Type 0
IsSingleOf Absent view xs = xs ≡ []
IsSingleOf (Value t) view xs = xs ≡ view t ∷ []
IsSingleOf {X} Conflict view xs = (a : X) × (b : X) × (rest : List X) × (xs ≡ a ∷ (b ∷ rest))
