use Rattle.mesh_topo.proofs.Common.{◌-◌}
use Rattle.mesh_topo.proofs.AdvertisedLemmas.Cutting.{AreFull}
use Rattle.mesh_topo.proofs.advertised.spans.parts.Given as goal

abbrev pub invariant-loop-first : goal.invariant-loop-first
invariant-loop-first l = AreFull l.rows l.most l.first l.spans

abbrev pub decreases-loop-first : goal.decreases-loop-first
decreases-loop-first l = l.rows - l.first
