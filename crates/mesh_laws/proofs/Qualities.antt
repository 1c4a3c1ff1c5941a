-- What the quality rule makes of a link.
use Rattle.mesh_laws.proofs.Common.{common_steps, ◌≡◌, ℕ, ◌≤◌, arith, nat_le, leb-true, and_parts, Admit, Link, by_quality}

-- The thresholds

pub below_all : (rule : Admit) → rule.accept ≤ 100
below_all rule = leb-true rule.accept 100 (and_parts (nat_le rule.reject rule.accept) (nat_le rule.accept 100) rule.thresholds).1

-- A link

module _ (rule : Admit) (hold now quality : ℕ) (e : Link × ℕ) where
  -- it has the quality
  pub quality_by : (by_quality rule hold now quality e).0.quality ≡ quality
  quality_by = grind (arith, common_steps)

  -- it ends no later than it did
  pub no_later : (by_quality rule hold now quality e).1 ≤ e.1
  no_later = grind (arith, common_steps)
