-- What holds of a core that isn't spent, and after an event that didn't meet an allocation failure.
use Rattle.mesh_core.proofs.Common.{arith, common_steps, ◌≡◌, Bool, false, Result, Ok, Err, is_err, OnOk}

-- where an event that met an allocation failure leaves the core spent, what holds after each other event holds of a core that isn't
pub where_whole : {A E : Type 0} {P : Type 0} {spent : Bool} (came : Result A E) → spent ≡ is_err came → OnOk came P → spent ≡ false → P
where_whole came says holds whole = grind (arith, common_steps)

-- what follows from both
pub on_both : {A E : Type 0} {P Q R : Type 0} (came : Result A E) → (P → Q → R) → OnOk came P → OnOk came Q → OnOk came R
on_both (Ok x) gives p q = gives p q
on_both (Err e) gives p q = tt
