-- The frames in the air as they stand in the ordered map, and in order of sending and then arc.
use Rattle.std.specs.Prelude.{ℕ, ◌<◌, List, [], ◌∷◌, All, map, cond, nat_lt}
use Rattle.std.specs.Map.{keys_of}
use Rattle.std.specs.Ordering.{nat_cmp, ordering_then}
use Rattle.std.specs.declared.cmp.Ordering.{Ordering}
use Rattle.mesh_machine.specs.Traffic.{Delivery}
use Rattle.mesh_radio.specs.declared.traffic.air.DeliveryOrder.{DeliveryOrder}
use Rattle.mesh_radio.specs.declared.traffic.air.FrameInFlight.{FrameInFlight}

-- an entry of the map
abbrev pub FlightEntry : Type 0
FlightEntry = DeliveryOrder × FrameInFlight

-- the entry as a delivery
abbrev pub flight_of : FlightEntry → Delivery
flight_of e = record { moment = e.0.moment; arc = e.1.arc; frame = e.1.frame.value }

-- entries in order of their numbers, with one more
abbrev pub insert_by_number : FlightEntry → List FlightEntry → List FlightEntry
insert_by_number e [] = e ∷ []
insert_by_number e (f ∷ fs) = cond (nat_lt e.0.number f.0.number) (e ∷ f ∷ fs) (f ∷ insert_by_number e fs)

-- entries in order of their numbers
abbrev pub by_number : List FlightEntry → List FlightEntry
by_number [] = []
by_number (e ∷ es) = insert_by_number e (by_number es)

-- the deliveries in order of their numbers
abbrev pub in_order : List FlightEntry → List Delivery
in_order es = map flight_of (by_number es)

-- by the moment, then by the number
abbrev pub turn_cmp : DeliveryOrder → DeliveryOrder → Ordering
turn_cmp a b = ordering_then (nat_cmp a.moment b.moment) (nat_cmp a.number b.number)

-- their numbers are below that of the next
abbrev pub AreNumberedBelow : ℕ → List FlightEntry → Type 0
AreNumberedBelow made es = All (λ t. t.number < made) (keys_of es)
