-- What a line of hexadecimal text says.
use Rattle.std.specs.Prelude.{◌≡◌, ◌⊎◌, ◌<◌, ◌%◌, ℕ, List, length, take, slice_index, Result, Ok, Err, Bool, false}
use Rattle.std.specs.List.{AllPass}
use Rattle.hex.specs.Hex.{decode_of, is_hex_digit}
use Rattle.mesh_atoms.specs.declared.refusal.Refusal.{Refusal}
use Rattle.mesh_packet.specs.declared.packet.Span.{Span}
use Rattle.mesh_packet.specs.Fields.{PacketFields}
use Rattle.mesh_packet.specs.Grammar.{Spells, FirstFault}
use Rattle.mesh_report.specs.Packets.{IsLineText}

-- at this place stands the first octet of a text that is no hexadecimal digit
pub record IsFirstOther (text : List ℕ) (place : ℕ) : Type 0 where
  pub within : place < length text
  pub other : is_hex_digit (slice_index text place) ≡ false
  pub before : AllPass is_hex_digit (take place text)

-- Why a text is no hexadecimal text: it has an odd number of octets (13, at that number), else an octet that is no digit (12,
-- at the first one).
abbrev pub IsNotHex : List ℕ → Refusal → Type 0
IsNotHex text refusal =
    ((length text % 2 ≡ 1) × (refusal ≡ record { place = length text; reason = 13 }))
    ⊎ ((length text % 2 ≡ 0) × IsFirstOther text refusal.place × (refusal.reason ≡ 12))

-- what a frame says: the packet that it spells and where its messages stand, or its first fault
abbrev pub FrameSays : List ℕ → Result (PacketFields × List Span) Refusal → Type 0
FrameSays frame (Ok read) = Spells read.0 read.1 frame
FrameSays frame (Err refusal) = FirstFault frame refusal.place refusal.reason

-- what a line says: what the octets say that it writes in hexadecimal, or why it is no hexadecimal text
abbrev pub ReadsAs : List ℕ → Result (PacketFields × List Span) Refusal → Type 0
ReadsAs line read =
    ((octets : List ℕ) × (decode_of line ≡ Ok octets) × FrameSays octets read) ⊎ ((refusal : Refusal) × IsNotHex line refusal × (read ≡ Err refusal))

-- 1 where a line is refused, else 0
abbrev pub refusals : Result (PacketFields × List Span) Refusal → ℕ
refusals (Ok read) = 0
refusals (Err refusal) = 1

-- the text lists the line of this number, and the line counts as so many refused ones
pub record IsListing (recode : Bool) (number : ℕ) (line : List ℕ) (count : ℕ) (text : List ℕ) : Type 0 where
  pub read : Result (PacketFields × List Span) Refusal
  pub reads : ReadsAs line read
  pub count_is : count ≡ refusals read
  pub is : IsLineText recode number read text
