use Rattle.mesh_settled.proofs.Common.{IsLeastGap, seen, IsToRow}
use Rattle.mesh_settled.proofs.GapsLemmas.Leasts.{Below}
use Rattle.mesh_settled.proofs.gaps.topics.rows_gap.Given as goal

abbrev pub invariant-loop-n : goal.invariant-loop-n
invariant-loop-n g l = IsLeastGap (seen g.R.RouterView.state l.site) (Below (IsToRow l.topic l.origin.addr l.rows) l.n) l.best
