use Rattle.mesh_paths.proofs.ReachedLaw.{as_good_by}
use Rattle.mesh_paths.proofs.frontier.has_as_good.Goals as goal

pub returns-in-Some : goal.returns-in-Some
returns-in-Some c = as_good_by c.args.reached.now c.args.row.now.node c.args.row.now.metric c.from.result c.args.row.now.parent c.in-Some.before c.is_as_good.result (cc) c.from.ensures c.is_as_good.ensures
