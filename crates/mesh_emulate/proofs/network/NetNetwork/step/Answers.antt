use Rattle.mesh_emulate.proofs.network.NetNetwork.step.Goals as goal

pub returns-clause-step : goal.returns-clause-step
returns-clause-step g c = c.step.ensures.step

pub returns-clause-packets : goal.returns-clause-packets
returns-clause-packets g c = c.step.ensures.packets
