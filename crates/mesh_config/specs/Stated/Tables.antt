-- Arrays of tables: the visits of an array are put together from those of its tables.
use Rattle.std.specs.Prelude.{ℕ, ◌+◌, List, [], ◌∷◌, ◌++◌, Option, Some, None, Ok, Err, nat_lt, if◌then◌else◌}
use Rattle.std.specs.List.{flat_map}
use Rattle.toml.specs.Data.{Data, table, Members, no_members}
use Rattle.mesh_config.specs.Keys.Faults.{Fault, ReadValue, Visits, visit, bad_value}
use Rattle.mesh_config.specs.Keys.Values.{table_visits}

-- the visits of an element: those of a table, and a bad value for any other
abbrev pub element_visits : (Members → Visits) → List ℕ → Data → Visits
element_visits visits key (table members) = visits members
element_visits visits key _ = Some (bad_value key) ∷ []

-- the visits of an array of tables, element by element; `key` is the one at fault where an element is no table
abbrev pub tables_visits : (Members → Visits) → List ℕ → List Data → Visits
tables_visits visits key ds = flat_map (element_visits visits key) ds

-- the table of an element
abbrev pub table_of : Data → Members
table_of (table members) = members
table_of _ = no_members

-- each value is what its table says, one after the other
abbrev pub Each : {X : Type 0} → (Members → X → Type 0) → List Data → List X → Type 0
Each Is [] [] = Unit {0}
Each Is [] (x ∷ xs) = ⊥
Each Is (d ∷ ds) [] = ⊥
Each Is (d ∷ ds) (x ∷ xs) = Is (table_of d) x × Each Is ds xs

-- ---- tables of which each has a number above that of the one before

-- a number that is read is no less than so many
abbrev pub no_less : ℕ → List ℕ → ReadValue ℕ → Option Fault
no_less least key (Ok n) = if nat_lt n least then Some (bad_value key) else None
no_less least key (Err f) = None

-- the visits of a table with a number at `key` and a value at `other`, where the number is to be no less than so many
abbrev pub numbered_visits : {A : Type 0} → List ℕ → (Members → ReadValue ℕ) → List ℕ → (Members → ReadValue A) → ℕ → Members → Visits
numbered_visits key number other value least members =
    table_visits (key ∷ other ∷ []) members (visit (number members) ∷ no_less least key (number members) ∷ visit (value members) ∷ [])

-- one more than a number that is read; 0 where a fault stands
abbrev pub one_above : ReadValue ℕ → ℕ
one_above (Ok n) = n + 1
one_above (Err f) = 0

-- the visits of the tables, where the number of the first is to be no less than `least`
abbrev pub rising_visits : (ℕ → Members → Visits) → (Members → ReadValue ℕ) → List ℕ → ℕ → List Data → Visits
rising_visits visits number key least [] = []
rising_visits visits number key least (d ∷ ds) =
    element_visits (visits least) key d ++ rising_visits visits number key (one_above (number (table_of d))) ds
