use Rattle.mesh_emulate.proofs.network.NetNetwork.routers.Goals as goal

pub returns : goal.returns
returns g c = c.cores.ensures
