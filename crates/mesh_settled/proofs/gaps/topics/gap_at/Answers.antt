use Rattle.mesh_settled.proofs.Common.{subst, sym, AreSame, states, seen, key_at, claim_fields}
use Rattle.mesh_settled.proofs.GapsLemmas.JointLemmas.{denied}
use Rattle.mesh_settled.proofs.GapsLemmas.Sides.{gap_found}
use Rattle.mesh_settled.proofs.GapsLemmas.TopicLemmas.{stray_same, held_side, given_as, excepted_is}
use Rattle.mesh_settled.proofs.gaps.topics.gap_at.Goals as goal

pub returns-then-at : goal.returns-then-at
returns-then-at g c =
    let site = c.args.site.now in
    let same = stray_same site.scenario.now site.graph.now (states g.R.RouterView.state site) site.moment site.x c.requires.site.network (g.R.RouterView.state site.router.now) c.args.at.topic c.args.at.origin.addr c.args.at.net (c.requires.origin.stray.0 c.if-at.true) in
    λ k is. subst (AreSame (seen g.R.RouterView.state site)) (sym is) same

pub returns : goal.returns
returns g c =
    let l = seen g.R.RouterView.state c.args.site.now in
    let from = c.args.at.origin.addr in
    rw (c.found_at.ensures, c.key_at.ensures, c.compared-values.ensures) (gap_found l (key_at c.args.at.topic from c.args.at.net) (λ e. denied c.requires.origin.stray c.if-at.false ((excepted_is l from c.args.at.net c.args.at.topic).0 e)) claim_fields claim_fields
    c.held_claim-held.result c.given_claim-given.result c.difference_of-difference.result c.is_some.result c.is_some-2.result c.is_some.ensures c.is_some-2.ensures
    (rw c.held_claim-held.ensures (held_side l (c.requires.site.network.sound c.args.site.now.x l.p c.requires.site.at) from c.args.at.net c.args.at.topic)) (given_as l from c.args.at.net c.args.at.topic _ c.given_claim-given.ensures) c.difference_of-difference.ensures)
