use Rattle.mesh_config.proofs.Common.{◌≡◌, drop, list_any}
use Rattle.mesh_config.proofs.checks.distinct.is_among.Given as goal

abbrev pub invariant-loop-other : goal.invariant-loop-other
invariant-loop-other g l = list_any (g.T.Compared.same l.item) l.others ≡ list_any (g.T.Compared.same l.item) (drop l.other-index l.others)
