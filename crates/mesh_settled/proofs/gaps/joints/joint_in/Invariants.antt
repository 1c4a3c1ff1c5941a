use Rattle.mesh_settled.proofs.Common.{map, IsJointBy}
use Rattle.mesh_settled.proofs.GapsLemmas.JointLemmas.{NoneBefore}
use Rattle.mesh_settled.proofs.gaps.joints.joint_in.Given as goal

abbrev pub invariant-loop-k : goal.invariant-loop-k
invariant-loop-k g l = NoneBefore (IsJointBy (map g.R.RouterView.state l.routers) l.pairs l.x l.i l.addr) l.pairs l.k
