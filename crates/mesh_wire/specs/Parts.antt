-- What the TLVs of a message say, and of which addresses (RFC 5444, section 5.4).
use Rattle.std.specs.Prelude.{◌≡◌, ℕ, ◌+◌, ◌-◌, ◌*◌, ◌/◌, ◌^◌, List, [], map, filter, length, slice_range, Option, Some, None, ◌==◌, ◌&&◌, if◌then◌else◌}
use Rattle.std.specs.Option.{option_map}
use Rattle.mesh_atoms.specs.declared.addr.NetAddr.{NetAddr}
use Rattle.mesh_atoms.specs.Octets.{address_in}
use Rattle.mesh_addr.specs.declared.records.RawAddr.{RawAddr}
use Rattle.mesh_tlv.specs.Fields.{TlvFields, AddrTlvFields}
use Rattle.mesh_packet.specs.Fields.{MessageFields}

-- the octets of a value; no value counts as one of length 0
abbrev pub octets_of : Option (List ℕ) → List ℕ
octets_of None = []
octets_of (Some octets) = octets

-- the values of the message TLVs of a type, without extension
abbrev pub values_of : ℕ → MessageFields → List (List ℕ)
values_of kind message = map (λ (p : TlvFields). octets_of p.value) (filter (λ (p : TlvFields). p.kind == kind && p.ext == 0) message.tlvs)

-- an IPv4 address as a number
abbrev pub number_of : List ℕ → ℕ
number_of octets = address_in octets

-- the network that an address is in: its bits after the prefix are cleared
pub record IsIn (address : RawAddr) (net : NetAddr) : Type 0 where
  pub prefix : net.prefix ≡ address.prefix
  pub number : net.addr.0 ≡ address_in address.octets / 2 ^ (32 - address.prefix) * 2 ^ (32 - address.prefix)

-- the k-th of n equal parts, counted from 0
abbrev pub share_of : ℕ → ℕ → List ℕ → List ℕ
share_of n k octets = slice_range octets (k * (length octets / n)) ((k + 1) * (length octets / n))

-- the value that an address TLV gives the address at a place: a multivalue is one part for each in order
abbrev pub value_at : AddrTlvFields → ℕ → Option (List ℕ)
value_at tlv place = if tlv.multi then option_map (share_of (tlv.last + 1 - tlv.first) (place - tlv.first)) tlv.value else tlv.value

-- what an address TLV says of the address at a place
abbrev pub part_at : AddrTlvFields → ℕ → TlvFields
part_at tlv place = record { kind = tlv.kind; ext = tlv.ext; value = value_at tlv place }
