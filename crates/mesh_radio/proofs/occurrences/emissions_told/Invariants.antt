use Rattle.mesh_radio.proofs.Common.{◌≡◌, map, emission_of}
use Rattle.mesh_radio.proofs.occurrences.emissions_told.Given as goal

abbrev pub invariant-loop-one : goal.invariant-loop-one
invariant-loop-one l = l.emissions ≡ map emission_of l.yielded
