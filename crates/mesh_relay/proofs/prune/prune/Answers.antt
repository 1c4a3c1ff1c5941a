use Rattle.mesh_relay.proofs.Pruned.{at_end}
use Rattle.mesh_relay.proofs.prune.prune.Goals as goal

pub returns-clause-needed : goal.returns-clause-needed
returns-clause-needed c =
    at_end c.args.graph.now c.args.willing.now c.loop-left.taken c.loop-left.left c.requires.willing c.loop-left-test.false c.loop-left.invariant.pruned
