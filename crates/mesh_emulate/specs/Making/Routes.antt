-- How many routes there are, and how great their metrics are.
use Rattle.std.specs.Prelude.{◌≡◌, ℕ, ◌≤◌, List, [], map, All, Contains, Option, Some, None}
use Rattle.std.specs.List.{flat_map}
use Rattle.mesh_atoms.specs.State.{State}

-- the metrics of all routes of routers in these states
abbrev pub metrics_of : List State → List ℕ
metrics_of states = flat_map (λ p. map (λ r. r.metric) p.routes) states

-- the greatest metric; none where there are none
abbrev pub IsGreatest : List ℕ → Option ℕ → Type 0
IsGreatest metrics None = metrics ≡ []
IsGreatest metrics (Some greatest) = Contains metrics greatest × All (λ metric. metric ≤ greatest) metrics
