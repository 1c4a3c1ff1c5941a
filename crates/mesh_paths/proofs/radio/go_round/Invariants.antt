use Rattle.mesh_paths.proofs.Common.{IsParts, Goes}
use Rattle.mesh_paths.proofs.radio.go_round.Given as goal

abbrev pub invariant-loop-pair : goal.invariant-loop-pair
invariant-loop-pair l = record {
  parts : IsParts l.pairs l.parts;
  gone : Goes l.changed l.fn.parts l.pairs l.pair-index l.parts;
}
