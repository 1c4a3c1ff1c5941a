use Rattle.mesh_relay.proofs.Flags.{none_serve}
use Rattle.mesh_relay.proofs.asked.serves_among.Goals as goal

pub returns-in-None : goal.returns-in-None
returns-in-None c = none_serve c.args.graph.now c.args.willing.now c.args.ids.now c.requires.willing (rw c.in-None.is at c.in_ok-taken.ensures)
