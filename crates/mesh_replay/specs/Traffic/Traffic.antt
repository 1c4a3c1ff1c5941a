-- The traffic of a network as the checker keeps it.
use Rattle.std.specs.Prelude.{◌≡◌, ℕ, List}
use Rattle.mesh_trace.specs.machine.Traffic.{Delivery, Traffic, IsHeardFirst, with_heard}

-- the traffic, and the seed by which words are drawn
pub record SeededTraffic : Type 0 where
  pub seed : ℕ
  pub traffic : Traffic

-- the frame that is heard first is out of the air, and counts as heard
pub record HasTaken (old : Traffic) (d : Delivery) (new : Traffic) : Type 0 where
  pub others : List Delivery
  pub first : IsHeardFirst old.air d others
  pub left : new ≡ with_heard old others
