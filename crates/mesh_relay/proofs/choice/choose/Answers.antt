use Rattle.mesh_relay.proofs.Common.{refl}
use Rattle.mesh_relay.proofs.Cheapest.{places_within}
use Rattle.mesh_relay.proofs.choice.choose.Goals as goal

pub choose_greedily-requires : goal.choose_greedily-requires
choose_greedily-requires c = rw (c.deref-2.ensures.value, c.deref-3.ensures.value)
    (places_within c.args.graph.now c.in_ok-willing.willing.items c.in_ok-ways.ways.items _ (rw c.deref.ensures.value at c.in_ok-ways.ensures) refl)
