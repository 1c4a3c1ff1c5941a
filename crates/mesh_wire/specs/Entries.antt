-- A message as one list: its addresses, and what each TLV says of each address that it covers.
use Rattle.std.specs.Prelude.{ℕ, ◌+◌, ◌-◌, ◌*◌, ◌/◌, ◌^◌, List, [], ◌∷◌, ◌++◌, map, slice_range, Option, Some, None, Bool, ◌&&◌, ◌==◌, if◌then◌else◌, unwrap_or}
use Rattle.mesh_atoms.specs.declared.addr.NetAddr.{NetAddr}
use Rattle.mesh_atoms.specs.Octets.{address_in}
use Rattle.mesh_addr.specs.declared.records.RawAddr.{RawAddr}
use Rattle.mesh_tlv.specs.Fields.{AddrTlvFields}
use Rattle.mesh_packet.specs.Fields.{BlockFields}
use Rattle.mesh_wire.specs.declared.parts.RowParts.{RowParts}
use Rattle.mesh_wire.specs.Parts.{octets_of, value_at}
use Rattle.mesh_wire.specs.KeptParts.{no_parts, take_part}

-- a network, and a type with a value that is said of it, or that it stands in the message
pub record Entry : Type 0 where
  pub number : ℕ
  pub prefix : ℕ
  pub said : Option (ℕ × List ℕ)

-- the entry of an address, by the network that it is in
abbrev pub entry_on : RawAddr → Option (ℕ × List ℕ) → Entry
entry_on a said = record { number = address_in a.octets / 2 ^ (32 - a.prefix) * 2 ^ (32 - a.prefix); prefix = a.prefix; said = said }

-- whether an entry is of the network
abbrev pub is_of : NetAddr → Entry → Bool
is_of net e = net.addr.0 == e.number && net.prefix == e.prefix

-- the addresses of a block
abbrev pub standing : List RawAddr → List Entry
standing addrs = map (λ (a : RawAddr). entry_on a None) addrs

-- what a TLV says of addresses that it covers, from a place on
abbrev pub tellings : AddrTlvFields → ℕ → List RawAddr → List Entry
tellings tlv place [] = []
tellings tlv place (a ∷ rest) = entry_on a (Some (tlv.kind, octets_of (value_at tlv place))) ∷ tellings tlv (place + 1) rest

-- what a TLV without extension says of the addresses of its block
abbrev pub of_tlv : List RawAddr → AddrTlvFields → List Entry
of_tlv addrs tlv = if tlv.ext == 0 then tellings tlv tlv.first (slice_range addrs tlv.first (tlv.last + 1)) else []

-- what TLVs say of the addresses of their block
abbrev pub of_tlvs : List RawAddr → List AddrTlvFields → List Entry
of_tlvs addrs [] = []
of_tlvs addrs (tlv ∷ tlvs) = of_tlv addrs tlv ++ of_tlvs addrs tlvs

-- the addresses of a block, and what its TLVs say
abbrev pub of_block : BlockFields → List Entry
of_block b = standing b.addrs ++ of_tlvs b.addrs b.tlvs

-- blocks one after the other
abbrev pub of_blocks : List BlockFields → List Entry
of_blocks [] = []
of_blocks (b ∷ blocks) = of_block b ++ of_blocks blocks

-- what is kept of a network, after one entry of it more
abbrev pub put_said : Option (ℕ × List ℕ) → Option RowParts → RowParts
put_said None row = unwrap_or row no_parts
put_said (Some (kind, octets)) row = take_part kind octets (unwrap_or row no_parts)

-- what is kept of a network, after all entries
abbrev pub collected : NetAddr → List Entry → Option RowParts → Option RowParts
collected net [] row = row
collected net (e ∷ entries) row = collected net entries (if is_of net e then Some (put_said e.said row) else row)
