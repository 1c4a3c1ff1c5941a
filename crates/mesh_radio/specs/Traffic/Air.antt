-- What is heard, as a delivery.
use Rattle.mesh_machine.specs.Traffic.{Delivery}
use Rattle.mesh_radio.specs.declared.traffic.air.ArrivedFrame.{ArrivedFrame}

-- a frame that is heard
abbrev pub delivery_of : ArrivedFrame → Delivery
delivery_of landed = record { moment = landed.moment; arc = landed.arc; frame = landed.frame.value }
