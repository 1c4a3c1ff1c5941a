use Rattle.mesh_config.proofs.Common.{table_get}
use Rattle.mesh_config.proofs.keys.values.found.Goals as goal

pub returns : goal.returns
returns c = table_get c.get.result c.args.key.now c.args.table.now.entries c.get.ensures.value
