use Rattle.mesh_wire.proofs.Common.{length}
use Rattle.mesh_wire.proofs.runs.+put_columns.Given as goal

abbrev pub decreases-put_columns : goal.decreases-put_columns
decreases-put_columns l = length l.columns.now
