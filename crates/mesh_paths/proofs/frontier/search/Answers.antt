use Rattle.mesh_paths.proofs.Common.{List, Contains, subst, Arc4}
use Rattle.mesh_paths.proofs.ReachedLaw.{certificate_of_reached}
use Rattle.mesh_paths.proofs.frontier.search.Goals as goal

pub reach_nearest-requires-clause-costs : goal.reach_nearest-requires-clause-costs
reach_nearest-requires-clause-costs c = λ arc has. c.requires.costs arc (subst (λ (x : List Arc4). Contains x arc) c.as_slice-arcs.ensures has)

pub returns : goal.returns
returns c = record {
  certificate = certificate_of_reached c.in_ok-reached.reached c.as_slice-arcs.result.now c.args.from c.in_ok-reached.ensures.rows c.in_ok-reached.ensures.met c.args.graph.now c.requires.costs c.as_slice-arcs.ensures c.in_ok-rows.ensures.ordered c.in_ok-rows.rows c.in_ok-rows.ensures.all;
}
