use Rattle.mesh_emulate.proofs.network.NetNetwork.counts.Goals as goal

pub returns : goal.returns
returns g c = c.counts.ensures
