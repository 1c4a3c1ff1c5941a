use Rattle.mesh_data.proofs.Common.{IsLongestOf}
use Rattle.mesh_data.proofs.decisions.longest_of.Given as goal

abbrev pub invariant-loop-network : goal.invariant-loop-network
invariant-loop-network l = IsLongestOf l.attached l.network-index l.fn.addr l.longest
