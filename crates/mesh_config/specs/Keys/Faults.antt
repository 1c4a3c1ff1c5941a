-- The refusals of settings, as lists: one entry for each visit of the walk, which is the fault that stands there, or none.
use Rattle.std.specs.Prelude.{◌≡◌, ℕ, List, [], ◌∷◌, Option, Some, None, Result, Ok, Err}
use Rattle.mesh_config.specs.declared.keys.fault.ConfigFault.{ConfigFault}
use Rattle.mesh_config.specs.declared.keys.fault.ConfigFault.TheVariants as faults
use Rattle.mesh_config.specs.declared.keys.refusal.TheConstants.{MISSING, BAD_VALUE, TOO_MANY, UNKNOWN_KEY}

-- a fault: its number, and the key at fault
pub record Fault : Type 0 where
  pub number : ℕ
  pub key : List ℕ

-- what is read at a place of the text: a value, or the fault that stands there
abbrev pub ReadValue : Type 0 → Type 0
ReadValue A = Result A Fault

-- the visits of a table, in their order
abbrev pub Visits : Type 0
Visits = List (Option Fault)

-- the fault of that number at a key
abbrev pub fault : ℕ → List ℕ → Fault
fault number key = record { number = number; key = key }

-- a key that must stand doesn't
abbrev pub missing : List ℕ → Fault
missing key = fault MISSING key

-- what stands at the key is of another kind, out of its range or not of its form, or an array of too few elements
abbrev pub bad_value : List ℕ → Fault
bad_value key = fault BAD_VALUE key

-- the array at the key has too many elements
abbrev pub too_many : List ℕ → Fault
too_many key = fault TOO_MANY key

-- the table has a key that none of its kind has
abbrev pub unknown_key : List ℕ → Fault
unknown_key key = fault UNKNOWN_KEY key

-- a visit of what is read
abbrev pub visit : {A : Type 0} → ReadValue A → Option Fault
visit (Ok x) = None
visit (Err f) = Some f

-- the first visit that has a fault: its fault
abbrev pub first : List (Option Fault) → Option Fault
first [] = None
first (None ∷ visits) = first visits
first (Some f ∷ visits) = Some f

-- a list that is read; empty where a fault stands
abbrev pub listed : {A : Type 0} → ReadValue (List A) → List A
listed (Ok xs) = xs
listed (Err f) = []

-- what is read, turned further
abbrev pub then_turned : {A B : Type 0} → (A → B) → ReadValue A → ReadValue B
then_turned turn (Ok x) = Ok (turn x)
then_turned turn (Err f) = Err f

-- ---- what a call gives that may want memory, which may come in place of any answer

-- an error is the fault that is read
abbrev pub IsReadFault : {A : Type 0} → ConfigFault → ReadValue A → Type 0
IsReadFault (faults.Memory e) read = Unit {0}
IsReadFault (faults.Refused number key) read = read ≡ Err (fault number key)

-- a result gives what is read, where `view` says what its value shows
abbrev pub GivesSetting : {X A : Type 0} → (X → A) → Result X ConfigFault → ReadValue A → Type 0
GivesSetting view (Ok x) read = read ≡ Ok (view x)
GivesSetting view (Err e) read = IsReadFault e read

-- an error is the fault that is found
abbrev pub FailsAt : ConfigFault → Option Fault → Type 0
FailsAt (faults.Memory e) found = Unit {0}
FailsAt (faults.Refused number key) found = found ≡ Some (fault number key)

-- a result is a value of which this holds, where no fault is found, and else the fault
abbrev pub ValueOrFault : {X : Type 0} → (X → Type 0) → Option Fault → Result X ConfigFault → Type 0
ValueOrFault Is found (Ok x) = (found ≡ None) × Is x
ValueOrFault Is found (Err e) = FailsAt e found

-- a fact of the number and the key, where the error is a refusal
abbrev pub IfSettingRefused : (ℕ → List ℕ → Type 0) → ConfigFault → Type 0
IfSettingRefused P (faults.Memory e) = Unit {0}
IfSettingRefused P (faults.Refused number key) = P number key
