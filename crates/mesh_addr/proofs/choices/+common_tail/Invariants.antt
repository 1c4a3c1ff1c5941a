use Rattle.mesh_addr.proofs.Common.{length}
use Rattle.mesh_addr.proofs.choices.+common_tail.Given as goal

abbrev pub decreases-common_tail : goal.decreases-common_tail
decreases-common_tail l = length l.addrs.now
