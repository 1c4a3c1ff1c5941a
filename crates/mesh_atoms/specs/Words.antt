-- Words on addresses, options and metrics that the definitions of a router share.
use Rattle.std.specs.Prelude.{◌≡◌, ℕ, ◌≤◌, ◌<◌, ◌⊎◌, ◌↔◌, List, Contains, AllPairs, Option, Some, None, length}
use Rattle.std.specs.List.{IsDistinct}
use Rattle.mesh_atoms.specs.declared.addr.Addr4.{Addr4}
use Rattle.mesh_atoms.specs.declared.codes.metric.Metric.{Metric}
use Rattle.mesh_atoms.specs.Base.{addr_eq}
use Rattle.mesh_atoms.specs.Codes.Codes.{metric_value}

-- Lists of addresses

-- two lists have an address in common
abbrev pub Meets : List Addr4 → List Addr4 → Type 0
Meets xs ys = (a : Addr4) × Contains xs a × Contains ys a

-- the first list has an address outside the second
abbrev pub IsBeyond : List Addr4 → List Addr4 → Type 0
IsBeyond xs ys = (a : Addr4) × Contains xs a × (Contains ys a → ⊥)

-- the addresses stand in ascending order, each once
abbrev pub IsAscending : List Addr4 → Type 0
IsAscending ids = AllPairs (λ a b. a.0 < b.0) ids

-- the list has exactly the addresses with the property, in ascending order
abbrev pub Lists : List Addr4 → (Addr4 → Type 0) → Type 0
Lists list P = IsAscending list × ((a : Addr4) → Contains list a ↔ P a)

-- more than so many distinct addresses have the property
abbrev pub AreMoreThan : ℕ → (Addr4 → Type 0) → Type 0
AreMoreThan most P = (some : List Addr4) × IsDistinct addr_eq some × ((a : Addr4) → Contains some a → P a) × (most < length some)

-- Options

-- the value with the property, or none where no value has it
abbrev pub IsValue : {A : Type 0} → (A → Type 0) → Option A → Type 0
IsValue {A} P None = (a : A) → P a → ⊥
IsValue {A} P (Some a) = P a

-- the value stays where it has the property, and goes where it hasn't
abbrev pub IsKept : {A : Type 0} → (A → Type 0) → Option A → Option A → Type 0
IsKept Stays None new = new ≡ None
IsKept Stays (Some e) new = (Stays e × (new ≡ Some e)) ⊎ ((Stays e → ⊥) × (new ≡ None))

-- the least of the metrics with the property, or none where no metric has it
abbrev pub IsLeastMetric : (Metric → Type 0) → Option Metric → Type 0
IsLeastMetric P None = (m : Metric) → P m → ⊥
IsLeastMetric P (Some m) = P m × ((n : Metric) → P n → metric_value m ≤ metric_value n)
