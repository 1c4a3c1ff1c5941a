use Rattle.mesh_config.proofs.Common.{table_view}
use Rattle.mesh_config.proofs.Told.{built_answers}
use Rattle.mesh_config.proofs.reading.ScenarioFromTable.from_table.Goals as goal

pub returns : goal.returns
returns c = built_answers (table_view c.args.table.now) c.in_ok-stated.stated c.checked.result c.in_ok-stated.ensures.0 c.in_ok-stated.ensures.1 c.checked.ensures
