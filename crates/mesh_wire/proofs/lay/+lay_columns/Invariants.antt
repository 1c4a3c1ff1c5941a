use Rattle.mesh_wire.proofs.Common.{length}
use Rattle.mesh_wire.proofs.lay.+lay_columns.Given as goal

abbrev pub decreases-lay_columns : goal.decreases-lay_columns
decreases-lay_columns l = length l.columns.now
