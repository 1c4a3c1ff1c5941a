use Rattle.mesh_emulate.proofs.network.NetNetwork.run_until_end.Goals as goal

pub returns : goal.returns
returns g c = c.run_until_end.ensures.over
