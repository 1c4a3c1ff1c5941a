use Rattle.mesh_config.proofs.Builds.{of_one_router}
use Rattle.mesh_config.proofs.build.router_from.Goals as goal

pub settings-requires : goal.settings-requires
settings-requires c =
    of_one_router c.args.stated.now c.args.interfaces c.in_ok-attached.attached c.requires.clear c.requires.interfaces c.in_ok-attached.ensures
