use Rattle.mesh_settled.proofs.Common.{map}
use Rattle.mesh_settled.proofs.GapsLemmas.JointLemmas.{joint_found}
use Rattle.mesh_settled.proofs.gaps.joints.joint_with.Goals as goal

pub returns : goal.returns
returns g c = joint_found c.args.site.now.scenario.now c.args.site.now.graph.now c.requires (map g.R.RouterView.state c.args.site.now.routers.now) c.args.site.now.x c.args.i c.args.addr c.joint_in.result (rw c.as_slice.ensures at c.joint_in.ensures)
