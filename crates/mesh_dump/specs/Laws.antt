-- That the definition of a listing leaves no choice.
use Rattle.std.specs.Prelude.{◌≡◌, ℕ, List, Some, Result, Bool}
use Rattle.mesh_atoms.specs.declared.refusal.Refusal.{Refusal}
use Rattle.mesh_packet.specs.declared.packet.Span.{Span}
use Rattle.mesh_packet.specs.Fields.{PacketFields}
use Rattle.mesh_dump.specs.Dump.{DumpMakes}
use Rattle.mesh_dump.specs.Lines.{ReadsAs}

-- each line says something
abbrev pub AlwaysReads : Type 0
AlwaysReads = (line : List ℕ) → (read : Result (PacketFields × List Span) Refusal) × ReadsAs line read

-- a line says one thing
abbrev pub ReadsAsOne : Type 0
ReadsAsOne = (line : List ℕ) (a b : Result (PacketFields × List Span) Refusal) → ReadsAs line a → ReadsAs line b → a ≡ b

-- the listing of an input, with its packets written again or without, is one list of pieces, and so one text; and so many of its lines
-- are refused
abbrev pub HasOneText : Type 0
HasOneText =
    (input : List ℕ) (recode : Bool) (m n : ℕ) (a b : List (List ℕ)) → DumpMakes input recode a (Some m) → DumpMakes input recode b (Some n) →
    (m ≡ n) × (a ≡ b)
