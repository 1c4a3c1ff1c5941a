use Rattle.mesh_settled.proofs.Common.{IsLeastAddress, no as never}
use Rattle.mesh_settled.proofs.GapsLemmas.JointLemmas.{one_least, value_some, value_none}
use Rattle.mesh_settled.proofs.gaps.joints.is_least.Goals as goal

pub returns-in-Some : goal.returns-in-Some
returns-in-Some c =
    one_least c.args.settings.now c.args.iface c.in-Some.least c.args.addr
    (value_some (IsLeastAddress c.args.settings.now c.args.iface) c.least_address.result c.in-Some.least c.in-Some.is c.least_address.ensures)

pub returns-in-None : goal.returns-in-None
returns-in-None c = never (value_none (IsLeastAddress c.args.settings.now c.args.iface) c.least_address.result c.in-None.is c.least_address.ensures c.args.addr)
