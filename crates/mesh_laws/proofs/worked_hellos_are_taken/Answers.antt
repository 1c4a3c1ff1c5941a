use Rattle.mesh_laws.proofs.WorkedNeighbourhood.{first_hello}
use Rattle.mesh_laws.proofs.WorkedLoss.{second_hello}
use Rattle.mesh_laws.proofs.worked_hellos_are_taken.Goals as goal

pub returns-clause-first : goal.returns-clause-first
returns-clause-first c = first_hello

pub returns-clause-second : goal.returns-clause-second
returns-clause-second c = second_hello
