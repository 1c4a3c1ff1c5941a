use Rattle.mesh_radio.proofs.Common.{refl}
use Rattle.mesh_radio.proofs.TrafficLemmas.Flights.{put_in_order, put_made}
use Rattle.mesh_radio.proofs.traffic.air.FramesInAir.put.Goals as goal

pub invariant_of-self-2 : goal.invariant_of-self-2
invariant_of-self-2 c = rw (c.in_ok-insert.ensures.entries, c.in-Some.ensures.1) (put_made _ _ _ _ refl c.self.invariant)

pub returns : goal.returns
returns c = rw (c.in_ok-insert.ensures.entries, ← c.self.view_is) (put_in_order _ _ _ _ refl c.self.invariant)
