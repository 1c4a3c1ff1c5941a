use Rattle.mesh_relay.proofs.Gains.{fewer}
use Rattle.mesh_relay.proofs.greedy.take_best.Goals as goal

pub loop-place-smaller : goal.loop-place-smaller
loop-place-smaller c =
    let best = (rw c.in-Some.is at c.best_of.ensures) in
    fewer c.loop-place.taken c.in-Some.place (best.0, best.1)
