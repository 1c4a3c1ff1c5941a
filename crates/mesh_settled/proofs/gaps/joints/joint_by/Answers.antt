use Rattle.mesh_settled.proofs.Common.{refl, IsBack}
use Rattle.mesh_settled.proofs.GapsLemmas.JointLemmas.{value_some, value_none}
use Rattle.mesh_settled.proofs.gaps.joints.joint_by.Goals as goal

pub returns-in-Some : goal.returns-in-Some
returns-in-Some g c = record {
  from = c.if-pair-x.false;
  from_iface = c.if-pair-i.false;
  to = refl;
  iface = refl;
  there = refl;
  back = value_some (IsBack c.args.pairs.now c.args.pair.now) c.back_of.result c.in-Some.back c.in-Some.is c.back_of.ensures;
  least = c.is_least_of.ensures.0 c.if-not-is_least_of.false;
}

pub returns-in-None : goal.returns-in-None
returns-in-None g c = λ joint by. value_none (IsBack c.args.pairs.now c.args.pair.now) c.back_of.result c.in-None.is c.back_of.ensures joint.back by.back
