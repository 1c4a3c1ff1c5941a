-- The moments of a table, in order, and at each the keys of the entries that end at it.
use Rattle.std.specs.Prelude.{◌≡◌, ℕ, ◌+◌, ◌-◌, Bool, true, false, cond, ◌&&◌, List, [], ◌∷◌, Option, None, Some, nat_eq, option_map, unwrap_or}
use Rattle.std.specs.Ordering.{nat_cmp}
use Rattle.std.specs.BTreeMap.{BTreeMap, get}
use Rattle.mesh_atoms.specs.Base.{Base, HasDistinctKeys, find}

-- once where it is so, else not at all
abbrev pub once_if : Bool → ℕ
once_if true = 1
once_if false = 0

-- how often that key stands in the list
abbrev pub times_in : {K : Type 0} → (K → K → Bool) → List K → K → ℕ
times_in eq [] key = 0
times_in eq (k ∷ ks) key = once_if (eq k key) + times_in eq ks key

-- how often that key stands at that moment
abbrev pub times_at : {K : Type 0} → (K → K → Bool) → BTreeMap ℕ (List K) → ℕ → K → ℕ
times_at eq moments moment key = times_in eq (unwrap_or (get nat_cmp moments moment) []) key

-- the key comes to that moment once more, and all else stays
abbrev pub PutsAt : {K : Type 0} → (K → K → Bool) → BTreeMap ℕ (List K) → BTreeMap ℕ (List K) → ℕ → K → Type 0
PutsAt {K} eq old new moment key =
    (m : ℕ) (q : K) → times_at eq new m q ≡ times_at eq old m q + once_if (nat_eq moment m && eq key q)

-- the key goes from that moment once, where it stands there, and all else stays
abbrev pub TakesAt : {K : Type 0} → (K → K → Bool) → BTreeMap ℕ (List K) → BTreeMap ℕ (List K) → ℕ → K → Type 0
TakesAt {K} eq old new moment key =
    (m : ℕ) (q : K) → times_at eq new m q ≡ times_at eq old m q - once_if (nat_eq moment m && eq key q)

-- whether that is the moment
abbrev pub is_moment : Option ℕ → ℕ → Bool
is_moment None moment = false
is_moment (Some until) moment = nat_eq until moment

-- the moment at a key
abbrev pub until_of : {V : Type 0} → Option (V × ℕ) → Option ℕ
until_of entry = option_map (λ e. e.1) entry

-- at each moment each key stands once where its entry ends then, and else not at all
abbrev pub AreMomentsOf : {K V : Type 0} → (K → K → Bool) → BTreeMap ℕ (List K) → Base K V → Type 0
AreMomentsOf {K} eq moments base =
    (moment : ℕ) (key : K) → times_at eq moments moment key ≡ once_if (is_moment (until_of (find eq base key)) moment)

-- the moments are those of the entries, and no key stands twice
pub record IsIndexed {K V : Type 0} (eq : K → K → Bool) (moments : BTreeMap ℕ (List K)) (base : Base K V) : Type 0 where
  pub tells : AreMomentsOf eq moments base
  pub distinct : HasDistinctKeys eq base

-- at each moment the keys stand as before, but that key once at the one that is given, and at no other
abbrev pub SetsMoment : {K : Type 0} → (K → K → Bool) → BTreeMap ℕ (List K) → BTreeMap ℕ (List K) → K → Option ℕ → Type 0
SetsMoment {K} eq old new key until =
    (moment : ℕ) (q : K) → times_at eq new moment q ≡ cond (eq key q) (once_if (is_moment until moment)) (times_at eq old moment q)
