use Rattle.mesh_emulate.proofs.MakingLemmas.Tells.{run_as_machines, tell_settled, tells_least_routes}
use Rattle.mesh_emulate.proofs.making.laws.made_networks_tell.Goals as goal

pub returns-clause-machines : goal.returns-clause-machines
returns-clause-machines c = run_as_machines

pub returns-clause-settled : goal.returns-clause-settled
returns-clause-settled c = tell_settled

pub returns-clause-routes : goal.returns-clause-routes
returns-clause-routes c = tells_least_routes
