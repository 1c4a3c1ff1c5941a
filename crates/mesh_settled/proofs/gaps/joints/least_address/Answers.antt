use Rattle.mesh_settled.proofs.GapsLemmas.JointLemmas.{least_in}
use Rattle.mesh_settled.proofs.gaps.joints.least_address.Goals as goal

pub returns : goal.returns
returns c = least_in c.args.settings.now c.args.iface c.addrs_of.result.now c.least_missing.result c.addrs_of.ensures c.least_missing.ensures
