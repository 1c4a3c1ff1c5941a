use Rattle.mesh_wire.proofs.Common.{length}
use Rattle.mesh_wire.proofs.octets.+has_type.Given as goal

abbrev pub decreases-has_type : goal.decreases-has_type
decreases-has_type l = length l.kinds.now
