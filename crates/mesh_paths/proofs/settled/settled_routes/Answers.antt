use Rattle.mesh_paths.proofs.SettledLaw.{settled_rows, settled_next_hops, settled_trips}
use Rattle.mesh_paths.proofs.settled.settled_routes.Goals as goal

pub returns-clause-rows : goal.returns-clause-rows
returns-clause-rows c = settled_rows

pub returns-clause-next_hops : goal.returns-clause-next_hops
returns-clause-next_hops c = settled_next_hops

pub returns-clause-trips : goal.returns-clause-trips
returns-clause-trips c = settled_trips
