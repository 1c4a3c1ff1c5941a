use Rattle.mesh_wire.proofs.Common.{length}
use Rattle.mesh_wire.proofs.runs.+leading.Given as goal

abbrev pub decreases-leading : goal.decreases-leading
decreases-leading l = length l.lines.now
