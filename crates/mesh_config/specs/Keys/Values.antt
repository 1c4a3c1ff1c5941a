-- What stands at a key of a table, turned into a value, or the fault in its place.
use Rattle.std.specs.Prelude.{ℕ, ℤ, ◌+◌, ◌*◌, ◌/◌, pos, negsuc, List, [], ◌∷◌, length, Option, Some, None, Ok, Err, Bool, nat_le, nat_lt, ◌&&◌, if◌then◌else◌, option_map}
use Rattle.std.specs.List.{list_any}
use Rattle.toml.specs.Data.{Data, Members, no_members, member, Items, no_items, item, get_member, as_integer, as_str, as_array}
use Rattle.mesh_atoms.specs.Settings.{name_eq}
use Rattle.mesh_atoms.specs.Literals.{◌>>=◌}
use Rattle.mesh_config.specs.Keys.Faults.{Fault, ReadValue, Visits, visit, first, missing, bad_value, too_many, unknown_key}

-- nothing is said
abbrev pub SaysNothing : Unit {0} → Type 0
SaysNothing x = Unit {0}

-- what a value is turned into
abbrev pub turned : {A : Type 0} → List ℕ → Option A → ReadValue A
turned key None = Err (bad_value key)
turned key (Some x) = Ok x

-- a value that must stand
abbrev pub at : {A : Type 0} → (Data → Option A) → List ℕ → Option Data → ReadValue A
at turn key None = Err (missing key)
at turn key (Some d) = turned key (turn d)

-- the value at a key of the table, which must stand
abbrev pub required : {A : Type 0} → (Data → Option A) → List ℕ → Members → ReadValue A
required turn key table = at turn key (get_member key table)

-- a value that may be absent
abbrev pub or_default : {A : Type 0} → A → (Data → Option A) → List ℕ → Option Data → ReadValue A
or_default default turn key None = Ok default
or_default default turn key (Some d) = turned key (turn d)

-- the value at a key of the table; the default where it is absent
abbrev pub optional : {A : Type 0} → A → (Data → Option A) → List ℕ → Members → ReadValue A
optional default turn key table = or_default default turn key (get_member key table)

-- a whole number of a range
abbrev pub in_range : ℕ → ℕ → Option ℤ → Option ℕ
in_range low high (Some (pos n)) = if nat_le low n && nat_le n high then Some n else None
in_range low high (Some (negsuc n)) = None
in_range low high None = None

-- a value that is a whole number from `low` to `high`
abbrev pub whole : ℕ → ℕ → Data → Option ℕ
whole low high d = in_range low high (as_integer d)

-- a text that is turned
abbrev pub text : {A : Type 0} → (List ℕ → Option A) → Data → Option A
text turn d = as_str d >>= turn

-- the elements of an array
abbrev pub items_list : Items → List Data
items_list no_items = []
items_list (item d ds) = d ∷ items_list ds

-- the elements of a value, where it is an array
abbrev pub elements : Data → Option (List Data)
elements d = option_map items_list (as_array d)

-- so many elements, from `low` to `high`
abbrev pub counted : ℕ → ℕ → List ℕ → ReadValue (List Data) → ReadValue (List Data)
counted low high key (Ok ds) =
    if nat_lt high (length ds) then Err (too_many key) else (if nat_lt (length ds) low then Err (bad_value key) else Ok ds)
counted low high key (Err f) = Err f

-- an array of `low` to `high` elements, which must stand
abbrev pub array : ℕ → ℕ → List ℕ → Members → ReadValue (List Data)
array low high key table = counted low high key (required elements key table)

-- an array of at most `high` elements, which is empty where it is absent
abbrev pub array_or_none : ℕ → List ℕ → Members → ReadValue (List Data)
array_or_none high key table = counted 0 high key (optional [] elements key table)

-- each element turned, where each can be
abbrev pub all_of : {A : Type 0} → (Data → Option A) → List Data → Option (List A)
all_of turn [] = Some []
all_of turn (d ∷ ds) = turn d >>= λ x. all_of turn ds >>= λ xs. Some (x ∷ xs)

-- the elements that are read at the key, each turned; a bad value where one can't be
abbrev pub each_turned : {A : Type 0} → (Data → Option A) → List ℕ → ReadValue (List Data) → ReadValue (List A)
each_turned turn key (Ok ds) = turned key (all_of turn ds)
each_turned turn key (Err f) = Err f

-- the key is one of these
abbrev pub is_one_of : List (List ℕ) → List ℕ → Bool
is_one_of known key = list_any (name_eq key) known

-- the least key that isn't known: the keys of a table ascend
abbrev pub first_unknown : (List ℕ → Bool) → Members → Option (List ℕ)
first_unknown is_known no_members = None
first_unknown is_known (member key d table) = if is_known key then first_unknown is_known table else Some key

-- the visit for unknown keys: a fault at the least of them
abbrev pub unknown : (List ℕ → Bool) → Members → Option Fault
unknown is_known table = option_map unknown_key (first_unknown is_known table)

-- a table that may have these keys is visited: its least unknown key first, and then its keys, by these visits
abbrev pub table_visits : List (List ℕ) → Members → Visits → Visits
table_visits keys table visits = unknown (is_one_of keys) table ∷ visits

-- the least number of ticks of 1/8192 s that is no shorter than so many milliseconds
abbrev pub ticks : ℕ → ℕ
ticks ms = (1024 * ms + 124) / 125

-- a table that is read; the empty one where a fault stands
abbrev pub table_read : ReadValue Members → Members
table_read (Ok table) = table
table_read (Err f) = no_members

-- a table within another is visited: whether it is read, and then its keys
abbrev pub inner_visits : (Members → Visits) → ReadValue Members → Visits
inner_visits visits read = visit read ∷ first (visits (table_read read)) ∷ []
