use Rattle.mesh_settled.proofs.Common.{sym, ◌∙◌, seen}
use Rattle.mesh_settled.proofs.GapsLemmas.TopicLemmas.{key_place}
use Rattle.mesh_settled.proofs.gaps.topics.held_at.Goals as goal

pub returns-in-Some-clause-gap : goal.returns-in-Some-clause-gap
returns-in-Some-clause-gap g c =
    key_place (seen g.R.RouterView.state c.args.site.now) (g.R.RouterView.state c.args.site.now.router.now) c.args.topic c.args.place c.in-Some.from c.in-Some.net c.gap_at.result
    (sym c.held_ends.ensures ∙ c.in-Some.is) (rw c.next_origin-origin.ensures.addr at c.gap_at.ensures)
