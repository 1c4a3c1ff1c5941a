use Rattle.mesh_data.proofs.Deciding.{and_then}
use Rattle.mesh_data.proofs.decisions.is_arc_of.Goals as goal

pub returns-then-is_from : goal.returns-then-is_from
returns-then-is_from c = and_then c.is_from.result c.is_address_at.result c.is_from.ensures c.if-is_from.true c.is_address_at.ensures
