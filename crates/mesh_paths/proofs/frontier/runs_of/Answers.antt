use Rattle.mesh_paths.proofs.Index.{upto_more}
use Rattle.mesh_paths.proofs.frontier.runs_of.Goals as goal

pub loop-start-preserved : goal.loop-start-preserved
loop-start-preserved c = upto_more c.args.arcs.now c.loop-start.runs.items c.push.new.self.items c.run_at-run.result c.loop-start.start c.in_ok-push.ensures.items c.run_at-run.ensures.run c.run_at-run.ensures.start c.loop-start.invariant
