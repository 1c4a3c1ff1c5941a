use Rattle.mesh_settled.proofs.Common.{map, refl, slice_get_read, IsJointBy}
use Rattle.mesh_settled.proofs.GapsLemmas.JointLemmas.{found_one, none_one, none_found}
use Rattle.mesh_settled.proofs.gaps.joints.joint_in.Goals as goal

pub returns-then-is_some : goal.returns-then-is_some
returns-then-is_some g c =
    found_one (IsJointBy (map g.R.RouterView.state c.args.routers.now) c.args.pairs.now c.args.x c.args.i c.args.addr) c.args.pairs.now c.loop-k.k c.index-pairs-k.result c.joint_by-joint.result
    (slice_get_read c.args.pairs.now _ c.loop-k.k c.index-pairs-k.result refl c.loop-k-test.true c.index-pairs-k.is) c.if-is_some.ensures c.joint_by-joint.ensures

pub loop-k-preserved : goal.loop-k-preserved
loop-k-preserved g c =
    none_one (IsJointBy (map g.R.RouterView.state c.args.routers.now) c.args.pairs.now c.args.x c.args.i c.args.addr) c.args.pairs.now c.loop-k.k c.index-pairs-k.result c.joint_by-joint.result
    (slice_get_read c.args.pairs.now _ c.loop-k.k c.index-pairs-k.result refl c.loop-k-test.true c.index-pairs-k.is) c.if-is_some.ensures c.joint_by-joint.ensures c.loop-k.invariant

pub returns : goal.returns
returns g c = none_found (IsJointBy (map g.R.RouterView.state c.args.routers.now) c.args.pairs.now c.args.x c.args.i c.args.addr) c.args.pairs.now c.loop-k.k c.loop-k-test.false c.loop-k.invariant
