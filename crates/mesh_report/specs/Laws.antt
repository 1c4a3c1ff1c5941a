-- That the definitions of a listing leave no choice.
use Rattle.std.specs.Prelude.{◌≡◌, ℕ, List, Result, Bool}
use Rattle.mesh_atoms.specs.declared.refusal.Refusal.{Refusal}
use Rattle.mesh_packet.specs.Fields.{MessageFields, PacketFields}
use Rattle.mesh_packet.specs.declared.packet.Span.{Span}
use Rattle.mesh_report.specs.Packets.{IsLineText}
use Rattle.mesh_report.specs.Readings.{IsReading}

-- a message reads in one way
abbrev pub ReadsInOneWay : Type 0
ReadsInOneWay = (message : MessageFields) (a b : List ℕ) → IsReading message a → IsReading message b → a ≡ b

-- a line has one listing, with its packet written again or without
abbrev pub HasOneListing : Type 0
HasOneListing = (recode : Bool) (number : ℕ) (read : Result (PacketFields × List Span) Refusal) (a b : List ℕ) → IsLineText recode number read a
    → IsLineText recode number read b → a ≡ b
