-- What tuples say stays the same.
use Rattle.std.specs.Prelude.{◌≡◌, ℕ, Option, Bool, option_map}
use Rattle.mesh_atoms.specs.declared.codes.metric.Metric.{Metric}
use Rattle.mesh_atoms.specs.Base.{Base, find}

-- at each key a tuple that says the same stands as before, or none does as before
abbrev pub SaysSame : {K V : Type 0} → (K → K → Bool) → (V → Option ℕ × Metric) → Base K V → Base K V → Type 0
SaysSame {K} eq says old new = (q : K) → option_map (λ e. says e.0) (find eq new q) ≡ option_map (λ e. says e.0) (find eq old q)
