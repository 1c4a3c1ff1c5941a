use Rattle.mesh_addr.proofs.Common.{length}
use Rattle.mesh_addr.proofs.choices.+common_head.Given as goal

abbrev pub decreases-common_head : goal.decreases-common_head
decreases-common_head l = length l.addrs.now
