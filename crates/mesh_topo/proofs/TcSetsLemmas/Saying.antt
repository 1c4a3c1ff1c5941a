-- Whether two tuples say the same.
use Rattle.mesh_topo.proofs.Common.{arith, common_steps, ◌≡◌, ℕ, eqb, Decides, Option, ◌&&◌, Metric, options, metrics}
use Rattle.std.specs.Option.{option_eq}
use Rattle.std.proofs.lemmas.Bool.Decides.{Decides-and, Decides-like}

-- it is as their distances and their metrics are
pub says_same : (a b : Option ℕ × Metric) → Decides (option_eq eqb a.0 b.0 && eqb a.1.code b.1.code) (a ≡ b)
says_same a b = grind (arith, common_steps, Decides-like, Decides-and, options, metrics)
