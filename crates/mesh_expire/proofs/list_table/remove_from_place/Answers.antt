use Rattle.mesh_expire.proofs.Common.{common_steps, arith, slice_get_read}
use Rattle.mesh_expire.proofs.Laws.{swapped_out}
use Rattle.mesh_expire.proofs.list_table.remove_from_place.Goals as goal

pub returns-clause-distinct : goal.returns-clause-distinct
returns-clause-distinct g c = grind (arith, common_steps, slice_get_read, swapped_out, c.len.ensures, c.swap_remove.ensures.value, c.swap_remove.ensures.items, c.requires)
