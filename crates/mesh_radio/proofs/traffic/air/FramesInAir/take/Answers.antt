use Rattle.mesh_radio.proofs.TrafficLemmas.Flights.{rest_made, first_of, all_later}
use Rattle.mesh_radio.proofs.traffic.air.FramesInAir.take.Goals as goal

pub returns-then-turn-limit-clause-limit : goal.returns-then-turn-limit-clause-limit
returns-then-turn-limit-clause-limit c = rw (← c.self.view_is) (all_later _ _ _ c.if-turn-limit.true c.in_ok-turn.ensures.all_from)

pub invariant_of-self-2 : goal.invariant_of-self-2
invariant_of-self-2 c = rest_made _ _ _ _ c.in_ok-moment.ensures.removal c.self.invariant

pub returns-clause-first : goal.returns-clause-first
returns-clause-first c = rw (← c.self.view_is) (first_of _ _ _ c.in_ok-moment.ensures.removal c.in_ok-moment.ensures.all_above)
