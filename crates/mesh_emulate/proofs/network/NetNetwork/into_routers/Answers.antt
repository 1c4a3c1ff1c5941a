use Rattle.mesh_emulate.proofs.network.NetNetwork.into_routers.Goals as goal

pub returns : goal.returns
returns g c = c.into_cores.ensures
