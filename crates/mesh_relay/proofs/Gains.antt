-- The neighbour that is taken next.
use Rattle.mesh_relay.proofs.Common.{common_steps, ◌≡◌, ℕ, ◌<◌, Bool, true, false, cond, List, [], ◌∷◌, set, zero, suc, arith, IsFree, free_count}

-- Fewer are left

fewer_first : (t : Bool) (n : ℕ) → t ≡ false → n < cond t n (suc n)
fewer_first t n e = grind (arith, common_steps)

fewer_later : (t : Bool) (m n : ℕ) → m < n → cond t m (suc m) < cond t n (suc n)
fewer_later t m n lt = grind (arith, common_steps)

pub fewer : (ts : List Bool) (k : ℕ) → IsFree ts k → free_count (set ts k true) < free_count ts
fewer [] k free = absurd (omega (arith, free.0))
fewer (t ∷ ts) zero free = fewer_first t (free_count ts) free.1
fewer (t ∷ ts) (suc k) free = fewer_later t (free_count (set ts k true)) (free_count ts) (fewer ts k (omega (arith, free.0), free.1))
