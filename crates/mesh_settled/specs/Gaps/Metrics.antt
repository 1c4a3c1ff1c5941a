-- The least metric of pairs.
use Rattle.std.specs.Prelude.{◌≡◌, ℕ, ◌<◌, ◌≤◌, List, Option, Some, None, cond, nat_eq, nat_lt, ◌&&◌, slice_get}
use Rattle.mesh_atoms.specs.declared.graphs.Pair.{Pair}
use Rattle.mesh_atoms.specs.declared.codes.metric.Metric.{Metric}
use Rattle.mesh_atoms.specs.Codes.Codes.{metric_value}

-- the lesser of the two metrics; the second where there is no first
abbrev pub less : Option Metric → Metric → Option Metric
less None m = Some m
less (Some b) m = cond (nat_lt (metric_value m) (metric_value b)) (Some m) (Some b)

-- the least metric, with one more pair, which may lead from router y to router z
abbrev pub cheaper : Option Metric → ℕ → ℕ → Pair → Option Metric
cheaper best y z pair = cond (nat_eq pair.from y && nat_eq pair.to z) (less best pair.metric) best

-- one of the first n pairs, which leads from router y to router z
abbrev pub IsLeading : List Pair → ℕ → ℕ → ℕ → Pair → Type 0
IsLeading pairs y z n e = (k : ℕ) × (k < n) × (slice_get pairs k ≡ Some e) × (e.from ≡ y) × (e.to ≡ z)

-- the least metric of these, if there are any
abbrev pub IsLeastMetricOf : List Pair → ℕ → ℕ → ℕ → Option Metric → Type 0
IsLeastMetricOf pairs y z n None = (e : Pair) → IsLeading pairs y z n e → ⊥
IsLeastMetricOf pairs y z n (Some m) =
    ((e : Pair) × IsLeading pairs y z n e × (e.metric ≡ m))
    × ((e : Pair) → IsLeading pairs y z n e → metric_value m ≤ metric_value e.metric)
