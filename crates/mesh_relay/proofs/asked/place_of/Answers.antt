use Rattle.mesh_relay.proofs.Flags.{no_place_at}
use Rattle.mesh_relay.proofs.asked.place_of.Goals as goal

pub returns-then-willing-place : goal.returns-then-willing-place
returns-then-willing-place c =
    no_place_at c.args.willing.now c.args.id c.first_near-place.result _ c.requires c.first_near-place.ensures c.if-willing-place.true
