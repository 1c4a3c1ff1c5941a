use Rattle.mesh_paths.proofs.Common.{sum, IsParts}
use Rattle.mesh_paths.proofs.radio.level_all.Given as goal

abbrev pub invariant-rounds : goal.invariant-rounds
invariant-rounds l = IsParts l.pairs l.parts

abbrev pub decreases-rounds : goal.decreases-rounds
decreases-rounds l = sum l.parts
