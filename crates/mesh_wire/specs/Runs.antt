-- What address blocks and their TLVs are, for what is written of addresses.
use Rattle.std.specs.Prelude.{◌≡◌, ℕ, ◌+◌, ◌*◌, ◌-◌, ◌/◌, ◌%◌, ◌<◌, ◌≤◌, List, [], ◌∷◌, ◌++◌, length, map, take, Contains, Option, Some, None, slice_get, nat_eq, Bool, true, not, ◌&&◌, if◌then◌else◌}
use Rattle.std.specs.Option.{is_some, option_eq}
use Rattle.std.specs.List.{flat_map}
use Rattle.mesh_atoms.specs.declared.addr.NetAddr.{NetAddr}
use Rattle.mesh_addr.specs.declared.records.RawAddr.{RawAddr}
use Rattle.mesh_packet.specs.Fields.{BlockFields}
use Rattle.mesh_tlv.specs.Fields.{AddrTlvFields}
use Rattle.mesh_tlv.specs.Least.{IsFit, least_addr_tlv}
use Rattle.mesh_wire.specs.declared.lines.AddressTlvKind.{AddressTlvKind}
use Rattle.mesh_wire.specs.declared.lines.AddressRecord.{AddressRecord}
use Rattle.mesh_wire.specs.Lines.{kind_of, most_of, octet_pair, value_of, columns, column_text}
use Rattle.mesh_wire.specs.Parts.{value_at}

-- the octets of an IPv4 address, with zeros after them
abbrev pub host_octets : ℕ → List ℕ
host_octets n =
    n / 16777216 ∷ (n / 65536 % 256 ∷ (n / 256 % 256 ∷ (n % 256 ∷ (0 ∷ (0 ∷ (0 ∷ (0 ∷ (0 ∷ (0 ∷ (0 ∷ (0 ∷ (0 ∷ (0 ∷ (0 ∷ (0 ∷ [])))))))))))))))

-- the address as it stands in a block
abbrev pub raw_of : NetAddr → RawAddr
raw_of net = record { octets = host_octets net.addr.0; prefix = net.prefix }

-- whether the part is said of the address
abbrev pub has_part : AddressTlvKind → AddressRecord → Bool
has_part c l = is_some (octet_pair c l)

-- how many lines at the front have the part
abbrev pub leading : AddressTlvKind → List AddressRecord → ℕ
leading c [] = 0
leading c (l ∷ lines) = if has_part c l then 1 + leading c lines else 0

-- how many lines have the part
abbrev pub present : AddressTlvKind → List AddressRecord → ℕ
present c [] = 0
present c (l ∷ lines) = (if has_part c l then 1 else 0) + present c lines

-- whether pairs of octets are the same
abbrev pub is_same_pair : ℕ × ℕ → ℕ × ℕ → Bool
is_same_pair a b = nat_eq a.0 b.0 && nat_eq a.1 b.1

-- whether all lines have that pair
abbrev pub have_pair : AddressTlvKind → Option (ℕ × ℕ) → List AddressRecord → Bool
have_pair c pair [] = true
have_pair c pair (l ∷ lines) = option_eq is_same_pair (octet_pair c l) pair && have_pair c pair lines

-- the pair of the first line
abbrev pub first_pair : AddressTlvKind → List AddressRecord → Option (ℕ × ℕ)
first_pair c [] = None
first_pair c (l ∷ lines) = octet_pair c l

-- the TLV of a run of lines, from a place of the block on: one value where all are the same, else one for each
abbrev pub run_of : AddressTlvKind → ℕ → List AddressRecord → AddrTlvFields
run_of c first lines = record {
  kind = kind_of c;
  ext = 0;
  first = first;
  last = first + (length lines - 1);
  multi = not (have_pair c (first_pair c lines) lines);
  value = Some (if have_pair c (first_pair c lines) lines then column_text c (take 1 lines) else column_text c lines);
}

-- more of this kind were put behind the old ones
abbrev pub Adds : {A : Type 0} → (List A → Type 0) → List A → List A → Type 0
Adds {A} P old new = (more : List A) × (new ≡ old ++ more) × P more

-- a TLV of the column that says of each address that it covers what the line says
pub record IsColumnTlv (c : AddressTlvKind) (lines : List AddressRecord) (tlv : AddrTlvFields) : Type 0 where
  pub kind : tlv.kind ≡ kind_of c
  pub ext : tlv.ext ≡ 0
  pub fit : IsFit (length lines) tlv
  pub says : (place : ℕ) → tlv.first ≤ place → place ≤ tlv.last →
      (line : AddressRecord) × (octets : List ℕ) × (slice_get lines place ≡ Some line) × (value_of c line ≡ Some octets) × (value_at tlv place ≡ Some octets)

-- TLVs of the column that say of the first lines of a block what these say, and nothing else, in few octets
pub record LaysFirst (c : AddressTlvKind) (lines : List AddressRecord) (bound : ℕ) (tlvs : List AddrTlvFields) : Type 0 where
  pub each : (tlv : AddrTlvFields) → Contains tlvs tlv → IsColumnTlv c lines tlv
  pub all : (place : ℕ) (line : AddressRecord) (octets : List ℕ) → place < bound → slice_get lines place ≡ Some line → value_of c line ≡ Some octets →
      (tlv : AddrTlvFields) × Contains tlvs tlv × (tlv.first ≤ place) × (place ≤ tlv.last)
  pub short : (count : ℕ) → length (flat_map (least_addr_tlv count) tlvs) ≤ most_of c * present c (take bound lines)

-- the same of all lines of a block
abbrev pub Lays : AddressTlvKind → List AddressRecord → List AddrTlvFields → Type 0
Lays c lines tlvs = LaysFirst c lines (length lines) tlvs

-- the TLVs of several columns, one column after the other
abbrev pub LaysAll : List AddressTlvKind → List AddressRecord → List AddrTlvFields → Type 0
LaysAll [] lines tlvs = tlvs ≡ []
LaysAll (c ∷ cs) lines tlvs =
    (first : List AddrTlvFields) × (others : List AddrTlvFields) × (tlvs ≡ first ++ others) × Lays c lines first
    × LaysAll cs lines others

-- the block of some lines, one address for each
pub record IsBlock (lines : List AddressRecord) (block : BlockFields) : Type 0 where
  pub width : block.width ≡ 4
  pub few : length lines ≤ 255
  pub addrs : block.addrs ≡ map (λ (l : AddressRecord). raw_of l.net) lines
  pub tlvs : LaysAll columns lines block.tlvs

-- blocks of 1 to 255 addresses that have the lines in their order
abbrev pub AreBlocks : List AddressRecord → List BlockFields → Type 0
AreBlocks lines [] = lines ≡ []
AreBlocks lines (b ∷ blocks) =
    (front : List AddressRecord) × (rest : List AddressRecord) × (lines ≡ front ++ rest) × (0 < length front) × IsBlock front b
    × AreBlocks rest blocks
