use Rattle.mesh_relay.proofs.Chosen.{chosen_by, unchosen}
use Rattle.mesh_relay.proofs.soles.are_chosen.Goals as goal

pub returns-then-reached : goal.returns-then-reached
returns-then-reached c =
    chosen_by c.args.graph.now c.args.willing.now c.args.ways.now c.args.taken.now c.args.soles.now c.args.reached c.are_fit.result
    c.requires.distinct c.requires.willing c.requires.ways c.requires.taken c.requires.soles c.requires.noted c.if-reached.true c.are_fit.ensures

pub returns-else-reached : goal.returns-else-reached
returns-else-reached c =
    unchosen c.args.graph.now c.args.willing.now c.args.ways.now c.args.taken.now c.args.soles.now c.args.reached
    c.requires.distinct c.requires.willing c.requires.ways c.requires.taken c.requires.soles c.requires.noted c.if-reached.false
