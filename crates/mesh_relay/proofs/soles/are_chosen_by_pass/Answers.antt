use Rattle.mesh_relay.proofs.Cheapest.{places_within}
use Rattle.mesh_relay.proofs.soles.are_chosen_by_pass.Goals as goal

pub note_soles-reached-requires-clause-places : goal.note_soles-reached-requires-clause-places
note_soles-reached-requires-clause-places c = places_within c.args.graph.now c.args.willing.now c.args.ways.now _ c.requires.ways c.requires.taken
