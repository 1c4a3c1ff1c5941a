-- What is written of each address, by what its TLVs may say.
use Rattle.std.specs.Prelude.{ℕ, ◌+◌, ◌/◌, ◌%◌, List, [], ◌∷◌, ◌++◌, map, Option, None, Bool, true, false, if◌then◌else◌, unwrap_or}
use Rattle.std.specs.Option.{option_map}
use Rattle.std.specs.List.{flat_map}
use Rattle.mesh_atoms.specs.declared.hello.HelloRow.{HelloRow}
use Rattle.mesh_atoms.specs.declared.codes.metric.Metric.{Metric}
use Rattle.mesh_atoms.specs.declared.tc.TcRow.{TcRow}
use Rattle.mesh_wire.specs.Hello.{row_octet}
use Rattle.mesh_atoms.specs.declared.tlv_type.TheConstants.{LINK_METRIC}
use Rattle.mesh_wire.specs.declared.lines.AddressTlvKind.{AddressTlvKind}
use Rattle.mesh_wire.specs.declared.lines.AddressTlvKind.TheVariants.{Octet, LinkIn, LinkOut, NearIn, NearOut}
use Rattle.mesh_wire.specs.declared.lines.AddressRecord.{AddressRecord}
use Rattle.mesh_wire.specs.OctetKinds.{kinds, type_of, at, by_kind, flags_number}

-- the type of TLV
abbrev pub kind_of : AddressTlvKind → ℕ
kind_of (Octet kind) = type_of kind
kind_of metric = LINK_METRIC

-- whether a value has two octets, as that of a metric, and not one
abbrev pub is_wide : AddressTlvKind → Bool
is_wide (Octet kind) = false
is_wide metric = true

-- how many octets a value has
abbrev pub width_of : AddressTlvKind → ℕ
width_of c = if is_wide c then 2 else 1

-- the most octets that a part takes, with its share of what stands before values
abbrev pub most_of : AddressTlvKind → ℕ
most_of c = if is_wide c then 6 else 5

-- one octet, with 0 behind it
abbrev pub narrow : Option ℕ → Option (ℕ × ℕ)
narrow octet = option_map (λ (n : ℕ). (n, 0)) octet

-- a metric with the flag of its kind in the first octet
abbrev pub flagged : ℕ → Option Metric → Option (ℕ × ℕ)
flagged flag metric = option_map (λ (m : Metric). (flag + m.code / 256, m.code % 256)) metric

-- what is said of an address, as two octets, of which a value has the first or both
abbrev pub octet_pair : AddressTlvKind → AddressRecord → Option (ℕ × ℕ)
octet_pair (Octet kind) l = narrow (at kind l.octets)
octet_pair LinkIn l = flagged 128 l.metrics.link_in
octet_pair LinkOut l = flagged 64 l.metrics.link_out
octet_pair NearIn l = flagged 32 l.metrics.near_in
octet_pair NearOut l = flagged 16 l.metrics.near_out

-- the value of two octets
abbrev pub octets_of : AddressTlvKind → ℕ × ℕ → List ℕ
octets_of c pair = pair.0 ∷ (if is_wide c then pair.1 ∷ [] else [])

-- the value that is said of an address
abbrev pub value_of : AddressTlvKind → AddressRecord → Option (List ℕ)
value_of c l = option_map (octets_of c) (octet_pair c l)

-- what is written of a row of a HELLO
abbrev pub hello_line : HelloRow → AddressRecord
hello_line r = record {
  net = r.addr;
  octets = by_kind (row_octet r);
  metrics = r.metrics;
}

-- what is written of a row of a TC
abbrev pub tc_line : TcRow → AddressRecord
tc_line r = record {
  net = r.dest;
  octets = record (by_kind (λ kind. None)) { addr_type = flags_number r.origin r.routable; gateway = r.gateway };
  metrics = record { link_in = None; link_out = None; near_in = None; near_out = r.metric };
}

-- the columns of metrics
abbrev pub metric_columns : List AddressTlvKind
metric_columns = LinkIn ∷ (LinkOut ∷ (NearIn ∷ (NearOut ∷ [])))

-- all columns, in the order in which they are written
abbrev pub columns : List AddressTlvKind
columns = map Octet kinds ++ metric_columns

-- the octets that are laid for an address: its value, or zeros of that length
abbrev pub laid : AddressTlvKind → AddressRecord → List ℕ
laid c l = octets_of c (unwrap_or (octet_pair c l) (0, 0))

-- the octets that are laid for addresses, one after the other
abbrev pub column_text : AddressTlvKind → List AddressRecord → List ℕ
column_text c lines = flat_map (laid c) lines

-- the same for several columns, one after the other
abbrev pub columns_text : List AddressTlvKind → List AddressRecord → List ℕ
columns_text cs lines = flat_map (λ (c : AddressTlvKind). column_text c lines) cs
