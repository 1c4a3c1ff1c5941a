use Rattle.mesh_wire.proofs.Common.{length}
use Rattle.mesh_wire.proofs.runs.+have_pair.Given as goal

abbrev pub decreases-have_pair : goal.decreases-have_pair
decreases-have_pair l = length l.lines.now
