use Rattle.mesh_settled.proofs.Common.{map, IsPeerOriginator}
use Rattle.mesh_settled.proofs.GapsLemmas.JointLemmas.{one_not}
use Rattle.mesh_settled.proofs.GapsLemmas.PeerLemmas.{past_sender}
use Rattle.mesh_settled.proofs.gaps.peers.sender_of.Goals as goal

pub returns-then-is_sender : goal.returns-then-is_sender
returns-then-is_sender g c = c.is_sender.ensures.0 c.if-is_sender.true

pub loop-w-preserved : goal.loop-w-preserved
loop-w-preserved g c = one_not (IsPeerOriginator c.args.site.now.scenario.now (map g.R.RouterView.state c.args.site.now.routers.now) c.args.site.now.x c.args.from) c.loop-w.w c.is_sender.result c.is_sender.ensures c.if-is_sender.false c.loop-w.invariant

pub returns : goal.returns
returns g c = past_sender g.R.RouterView.state c.args.site.now.routers.now c.args.site.now.scenario.now c.args.site.now.x c.args.from c.loop-w.w c.loop-w-test.false c.loop-w.invariant
