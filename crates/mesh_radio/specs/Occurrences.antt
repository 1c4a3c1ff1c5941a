-- An event that is told with shares of its frames, as the event with their octets.
use Rattle.std.specs.Prelude.{map, option_map}
use Rattle.mesh_atoms.specs.declared.network.Emission.{Emission}
use Rattle.mesh_atoms.specs.declared.network.NetEvent.{NetEvent}
use Rattle.mesh_radio.specs.declared.occurrences.Occurrence.{Occurrence}
use Rattle.mesh_radio.specs.declared.occurrences.SentFrame.{SentFrame}

-- a frame that was sent
abbrev pub emission_of : SentFrame → Emission
emission_of sent = record { iface = sent.iface; frame = sent.frame.value; lost = sent.lost }

-- an event
abbrev pub net_event_of : Occurrence → NetEvent
net_event_of o = record {
  moment = o.moment;
  router = o.router;
  heard = option_map (λ h. (h.0, h.1, h.2.value)) o.heard;
  sent = map emission_of o.sent.items;
}
