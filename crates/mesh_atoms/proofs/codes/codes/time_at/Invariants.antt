use Rattle.mesh_atoms.proofs.Common.{◌≡◌, ◌*◌, drop, time_at_distance}
use Rattle.mesh_atoms.proofs.codes.codes.time_at.Given as goal

abbrev pub invariant-loop-pair : goal.invariant-loop-pair
invariant-loop-pair l = time_at_distance l.distance l.value ≡ time_at_distance l.distance (drop (2 * l.pair) l.value)
