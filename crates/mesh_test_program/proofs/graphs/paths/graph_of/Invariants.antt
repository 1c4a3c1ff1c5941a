use Rattle.std.proofs.Common.{◌≤◌, length, Contains}
use Rattle.mesh_atoms.specs.declared.graphs.Arc4.{Arc4}
use Rattle.mesh_test_program.proofs.graphs.paths.graph_of.Given as goal

abbrev pub invariant-loop-from : goal.invariant-loop-from
invariant-loop-from l = record {
  costs : (a : Arc4) → Contains l.costly a → 1 ≤ a.metric;
  few : length l.costly ≤ l.from-index;
}
