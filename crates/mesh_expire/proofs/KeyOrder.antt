-- The order of keys by their first part.
use Rattle.mesh_expire.proofs.Common.{common_steps, ◌≡◌, ℕ, ◌≤◌, arith, false, ordering_then, nat_cmp, is_gt, ranked}
use Rattle.std.specs.declared.cmp.Ordering.{Ordering}

-- what is not above in the order is not above by its first part
pub no_later : (x y : ℕ) (r o : Ordering) → r ≡ nat_cmp x y → is_gt (ordering_then r o) ≡ false → x ≤ y
no_later x y r o is h = grind (arith, common_steps, ranked)
