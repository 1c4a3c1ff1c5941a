-- One set of tuples, and what a TC does to it.
use Rattle.std.specs.Prelude.{◌≡◌, ℕ, ◌<◌, List, Contains, Option, Some, None, Bool, not, nat_eq, ◌&&◌, false, slice_get}
use Rattle.mesh_atoms.specs.declared.addr.Addr4.{Addr4}
use Rattle.mesh_atoms.specs.declared.tc.Tc.{Tc}
use Rattle.mesh_atoms.specs.declared.tc.TcRow.{TcRow}
use Rattle.mesh_atoms.specs.Base.{Base, Same, SetsOnly, find, addr_eq}

-- a row of the TC gives that tuple
abbrev pub GivenBy : {K V : Type 0} → (Addr4 → ℕ → TcRow → Option (K × V)) → Tc → K → V → Type 0
GivenBy given tc key value = (row : TcRow) × Contains tc.rows row × (given tc.originator tc.ansn row ≡ Some (key, value))

-- a row before that place gives that tuple
abbrev pub GivenBefore : {R K V : Type 0} → (R → Option (K × V)) → List R → ℕ → K → V → Type 0
GivenBefore {R} given rows place key value = (k : ℕ) × (row : R) × (k < place) × (slice_get rows k ≡ Some row) × (given row ≡ Some (key, value))

-- what becomes of a tuple by the rows before that place: as one gives it until the moment, else as it stood
pub data PutsRows {R K V : Type 0} (given : R → Option (K × V)) (until : ℕ) (rows : List R) (place : ℕ) (key : K) (old new : Option (V × ℕ)) : Type 0 where
  Put : (value : V) → GivenBefore given rows place key value → new ≡ Some (value, until) → PutsRows given until rows place key old new
  Stood : ((value : V) → GivenBefore given rows place key value → ⊥) → new ≡ old → PutsRows given until rows place key old new

-- a tuple that may have been given, put into a base
abbrev pub PutsGiven : {K V : Type 0} → (K → K → Bool) → Option (K × V) → ℕ → Base K V → Base K V → Type 0
PutsGiven eq None until old new = Same eq old new
PutsGiven eq (Some e) until old new = SetsOnly eq old new e.0 (Some (e.1, until))

-- whether a tuple stands that has another number
abbrev pub has_other_number : {V : Type 0} → ℕ → (V → ℕ) → Option (V × ℕ) → Bool
has_other_number ansn number None = false
has_other_number ansn number (Some e) = not (nat_eq (number e.0) ansn)

-- whether a tuple of that originator with another number stands at a key
abbrev pub is_outdated : {K V : Type 0} → (K → K → Bool) → Addr4 → ℕ → (K → Addr4) → (V → ℕ) → Base K V → K → Bool
is_outdated eq originator ansn from number base key = addr_eq (from key) originator && has_other_number ansn number (find eq base key)
