use Rattle.mesh_machine.proofs.said.is_relay.Goals as goal
use Rattle.mesh_hello.proofs.SayingLemmas.Parts.{lent, relay_by}

pub returns-in-Some : goal.returns-in-Some
returns-in-Some c = relay_by c.args.relays.now _ (c.in-Some.originator.now, (c.in-Some.field-0-1.now, c.in-Some.field-0-2)) _ (lent c.args.neighbour _ c.in-Some.is) c.contains.ensures
