use Rattle.mesh_relay.proofs.Common.{◌∙◌, take_rest}
use Rattle.mesh_relay.proofs.Directs.{from_point}
use Rattle.mesh_relay.proofs.seek.is_found.Goals as goal

pub returns : goal.returns
returns c =
    c.is_first_within.ensures
    ∙ from_point c.args.addr c.args.most c.args.directs.now _ c.first_direct-first.result c.requires c.first_direct-first.ensures.within c.first_direct-first.ensures.point (take_rest c.args.directs.now c.first_direct-first.result)
