use Rattle.mesh_settled.proofs.Common.{IsMetric, seen}
use Rattle.mesh_settled.proofs.GapsLemmas.JointLemmas.{value_some}
use Rattle.mesh_settled.proofs.GapsLemmas.NeighbourLemmas.{near_is}
use Rattle.mesh_settled.proofs.gaps.neighbours.given_near.Goals as goal

pub is_selector-requires-clause-sound : goal.is_selector-requires-clause-sound
is_selector-requires-clause-sound g c = c.requires.site.network.sound c.args.y (g.R.RouterView.state c.args.other.now) c.requires.other

pub is_selector-requires-clause-moment : goal.is_selector-requires-clause-moment
is_selector-requires-clause-moment g c = c.requires.site.network.moment c.args.y (g.R.RouterView.state c.args.other.now) c.requires.other

pub returns-in-Some-back : goal.returns-in-Some-back
returns-in-Some-back g c =
    let site = c.args.site.now in
    near_is (seen g.R.RouterView.state site) c.args.y (g.R.RouterView.state c.args.other.now) _ c.settings-in-Some-back.result.now c.settings.ensures c.settings-in-Some-back.ensures
    (value_some (IsMetric site.scenario.now site.x c.args.y) c.metric_to-there.result c.in-Some.metric_out c.in-Some.is c.metric_to-there.ensures)
    (value_some (IsMetric site.scenario.now c.args.y site.x) c.metric_to-back.result c.in-Some-back.metric_in c.in-Some-back.is c.metric_to-back.ensures) c.is_selector.ensures
