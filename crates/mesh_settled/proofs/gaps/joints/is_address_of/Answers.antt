use Rattle.mesh_settled.proofs.Common.{HasAddressOn}
use Rattle.mesh_settled.proofs.GapsLemmas.JointLemmas.{on_face, one_face, one_not, no_face}
use Rattle.mesh_settled.proofs.gaps.joints.is_address_of.Goals as goal

pub returns-then-contains : goal.returns-then-contains
returns-then-contains c = one_face c.args.settings.now c.args.addr c.loop-i.i c.contains.result (on_face c.args.settings.now c.loop-i.i c.addrs_of.result.now c.contains.result c.args.addr c.addrs_of.ensures c.contains.ensures) c.if-contains.true

pub loop-i-preserved : goal.loop-i-preserved
loop-i-preserved c = one_not (λ i. HasAddressOn c.args.settings.now i c.args.addr) c.loop-i.i c.contains.result (on_face c.args.settings.now c.loop-i.i c.addrs_of.result.now c.contains.result c.args.addr c.addrs_of.ensures c.contains.ensures) c.if-contains.false c.loop-i.invariant

pub returns : goal.returns
returns c = no_face c.args.settings.now c.args.addr c.loop-i.i (rw c.len-i-end.ensures at c.loop-i-test.false) c.loop-i.invariant
