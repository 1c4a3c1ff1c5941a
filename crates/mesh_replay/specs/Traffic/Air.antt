-- The frames in the air, as deliveries.
use Rattle.std.specs.Prelude.{◌≡◌, ℕ, ◌<◌, ◌≤◌, List, Some, All, slice_get}
use Rattle.mesh_trace.specs.machine.Traffic.{Delivery}
use Rattle.mesh_replay.specs.declared.traffic.air.Delivered.{Delivered}

-- a frame in the air
abbrev pub delivery_of : Delivered → Delivery
delivery_of landed = record { moment = landed.moment; arc = landed.arc; frame = landed.frame.value }

-- none of the frames is heard before that moment
abbrev pub AreNoEarlier : ℕ → List Delivered → Type 0
AreNoEarlier least flights = All (λ f. least ≤ f.moment) flights

-- of the first frames, so many, the one at that place is of the least moment, and of these the first
pub record IsNextFrame (flights : List Delivered) (count place : ℕ) : Type 0 where
  pub flight : Delivered
  pub stands : slice_get flights place ≡ Some flight
  pub no_earlier : (i : ℕ) (f : Delivered) → slice_get flights i ≡ Some f → i < count → flight.moment ≤ f.moment
  pub later : (i : ℕ) (f : Delivered) → slice_get flights i ≡ Some f → i < place → flight.moment < f.moment
