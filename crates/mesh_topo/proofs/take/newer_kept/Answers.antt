use Rattle.mesh_topo.proofs.Common.{refl, sym}
use Rattle.mesh_topo.proofs.take.newer_kept.Goals as goal

pub returns-then-seq_newer-clause-some : goal.returns-then-seq_newer-clause-some
returns-then-seq_newer-clause-some g c =
    ((c.in_ok-advertiser.advertiser.now, c.in_ok-advertiser.field-0-1), sym c.in_ok-advertiser.ensures, refl, c.seq_newer.ensures.0 c.if-seq_newer.true)
