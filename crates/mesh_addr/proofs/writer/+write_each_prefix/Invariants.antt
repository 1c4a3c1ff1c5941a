use Rattle.mesh_addr.proofs.Common.{length}
use Rattle.mesh_addr.proofs.writer.+write_each_prefix.Given as goal

abbrev pub decreases-write_each_prefix : goal.decreases-write_each_prefix
decreases-write_each_prefix l = length l.addrs.now
