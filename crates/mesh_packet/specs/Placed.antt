-- Where the messages of a frame stand.
use Rattle.std.specs.Prelude.{◌≡◌, ℕ, ◌+◌, ◌≤◌, List, length, Some, slice_get, slice_range}
use Rattle.mesh_packet.specs.declared.packet.Span.{Span}
use Rattle.mesh_packet.specs.Fields.{MessageFields}
use Rattle.mesh_packet.specs.Grammar.{SpellsMessage}

-- each message has a span, and the frame's octets there spell it
pub record ArePlaced (messages : List MessageFields) (spans : List Span) (frame : List ℕ) : Type 0 where
  pub same : length messages ≡ length spans
  pub within : (k : ℕ) (s : Span) → slice_get spans k ≡ Some s → s.start + s.len ≤ length frame
  pub each : (k : ℕ) (m : MessageFields) (s : Span) → slice_get messages k ≡ Some m → slice_get spans k ≡ Some s
      → SpellsMessage m (slice_range frame s.start (s.start + s.len))
