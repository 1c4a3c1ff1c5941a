use Rattle.mesh_dump.proofs.Common.{common_steps, arith, decimal_digit, empty_line}
use Rattle.mesh_dump.proofs.empty.EmptyLine.new.Goals as goal

pub invariant_of-result : goal.invariant_of-result
unfolding empty_line
invariant_of-result c = grind (arith, common_steps, decimal_digit)
