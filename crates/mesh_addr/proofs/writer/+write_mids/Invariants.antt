use Rattle.mesh_addr.proofs.Common.{length}
use Rattle.mesh_addr.proofs.writer.+write_mids.Given as goal

abbrev pub decreases-write_mids : goal.decreases-write_mids
decreases-write_mids l = length l.addrs.now
