use Rattle.mesh_addr.proofs.Common.{length}
use Rattle.mesh_addr.proofs.choices.+have_prefix.Given as goal

abbrev pub decreases-have_prefix : goal.decreases-have_prefix
decreases-have_prefix l = length l.addrs.now
