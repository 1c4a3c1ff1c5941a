-- A table in a table.
use Rattle.mesh_config.proofs.Common.{arith, common_steps, ◌≡◌, List, [], ◌∷◌, Option, Result, Ok, Members, ConfigFault, Fault, ReadValue, first, ValueOrFault, table_read, inner_visits}

pub first_one : (found : Option Fault) → first (found ∷ []) ≡ found
first_one found = grind (arith, common_steps)

-- what is answered for the table within is answered for the part
pub part_answers : {X : Type 0} (Is : Members → X → Type 0) (entries : Members → List (Option Fault)) (read : ReadValue Members) (table : Members) (r : Result X ConfigFault)
    → read ≡ Ok table → ValueOrFault (Is table) (first (entries table)) r → ValueOrFault (Is (table_read read)) (first (inner_visits entries read)) r
part_answers Is entries read table r is met = rw (is, first_one (first (entries table))) met
