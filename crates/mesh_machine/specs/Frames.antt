-- Frames that a router hears and sends.
use Rattle.std.specs.Prelude.{ℕ, zero, suc, ◌+◌, ◌∷◌, [], ◌++◌, List, slice_range, length, drop}
use Rattle.mesh_wire.specs.packet.declared.packet.Span.{Span}
use Rattle.mesh_machine.specs.declared.frame.Frame.{Frame}

-- the octets of a message that stands there in a frame
abbrev pub octets_at : List ℕ → Span → List ℕ
octets_at bytes span = slice_range bytes span.start (span.start + span.len)

-- one frame of these octets on each of so many interfaces, in order
abbrev pub on_each : ℕ → List ℕ → List Frame
on_each zero bytes = []
on_each (suc i) bytes = on_each i bytes ++ (record { iface = i; bytes = bytes } ∷ [])

-- the frames behind those that there were
abbrev pub sent_since : List Frame → List Frame → List Frame
sent_since old new = drop (length old) new
