use Rattle.mesh_settled.proofs.Common.{IsStrayAt}
use Rattle.mesh_settled.proofs.GapsLemmas.JointLemmas.{one_not}
use Rattle.mesh_settled.proofs.GapsLemmas.PeerLemmas.{no_stray}
use Rattle.mesh_settled.proofs.gaps.peers.is_stray.Goals as goal

pub loop-v-preserved : goal.loop-v-preserved
loop-v-preserved g c = one_not (IsStrayAt c.args.site.now.scenario.now c.args.site.now.x c.args.addr) c.loop-v.v c.is_stray_at.result c.is_stray_at.ensures c.if-is_stray_at.false c.loop-v.invariant

pub returns : goal.returns
returns g c = no_stray g.R.RouterView.state c.args.site.now.routers.now c.args.site.now.scenario.now c.args.site.now.graph.now c.args.site.now.moment c.requires.network c.args.site.now.x c.args.addr c.loop-v.v c.loop-v-test.false c.loop-v.invariant
