-- A TC that is valid for the same time at every distance.
use Rattle.mesh_probe.proofs.Common.{◌≡◌, ℕ, arith, common_steps, time_value, IsRoundedUp, IsLeastCode}
use Rattle.mesh_atoms.proofs.CodesLemmas.CodeLaws.{time-le}

-- the least code that is no shorter stands for the ticks rounded up
pub least_is_rounded : (ticks time code : ℕ) → IsRoundedUp ticks time → IsLeastCode ticks code → time_value code ≡ time
least_is_rounded ticks time code rounded least = grind (arith, common_steps, time-le)
