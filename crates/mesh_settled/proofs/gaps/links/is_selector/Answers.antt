use Rattle.mesh_settled.proofs.Common.{slice_get-get_or, Says, Flooding}
use Rattle.mesh_settled.proofs.GapsLemmas.JointLemmas.{no_more, none_here, denied}
use Rattle.mesh_settled.proofs.gaps.links.is_selector.Goals as goal

pub loop-k-preserved : goal.loop-k-preserved
loop-k-preserved g c =
    no_more (λ a. Says (g.R.RouterView.state c.args.other.now) c.args.j c.args.now a Flooding) c.args.addrs.now c.loop-k.k _ (slice_get-get_or c.args.addrs.now c.loop-k.k _ c.loop-k-test.true)
    (denied c.said.ensures.flooding c.if-said.false) c.loop-k.invariant

pub returns : goal.returns
returns g c = none_here (λ a. Says (g.R.RouterView.state c.args.other.now) c.args.j c.args.now a Flooding) c.args.addrs.now c.loop-k.k c.loop-k-test.false c.loop-k.invariant
