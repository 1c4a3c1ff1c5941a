use Rattle.mesh_expire.proofs.Common.{common_steps, on_err_of, arith, set_value_same}
use Rattle.mesh_expire.proofs.index.index_table.put_in.Goals as goal

pub returns-in_err-move_moment-clause-err : goal.returns-in_err-move_moment-clause-err
returns-in_err-move_moment-clause-err g c = grind (arith, common_steps, on_err_of, set_value_same, c.in-Some.ensures.value)
