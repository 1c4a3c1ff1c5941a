-- Messages as they are laid out before they are written.
use Rattle.std.specs.Prelude.{◌≡◌, ℕ, ◌+◌, ◌*◌, ◌/◌, ◌%◌, ◌≤◌, List, [], ◌∷◌, ◌++◌, length, map, take, drop, slice_range, Option, Some, None, Bool, if◌then◌else◌}
use Rattle.std.specs.Option.{option_map, is_some}
use Rattle.mesh_atoms.specs.declared.addr.Addr4.{Addr4}
use Rattle.mesh_atoms.specs.declared.hello.Hello.{Hello}
use Rattle.mesh_atoms.specs.declared.hello.Willing.{Willing}
use Rattle.mesh_atoms.specs.declared.tc.Tc.{Tc}
use Rattle.mesh_atoms.specs.declared.limits.TheConstants.{LONGEST_DATAGRAM}
use Rattle.mesh_atoms.specs.Codes.Codes.{time_value, IsSentCode}
use Rattle.mesh_addr.specs.declared.records.RawAddr.{RawAddr}
use Rattle.mesh_packet.specs.Fields.{MessageFields}
use Rattle.mesh_packet.specs.Least.{LeastForm}
use Rattle.mesh_tlv.specs.Fields.{TlvFields}
use Rattle.mesh_wire.specs.declared.lines.AddressRecord.{AddressRecord}
use Rattle.mesh_atoms.specs.declared.tlv_type.TheConstants.{INTERVAL_TIME, VALIDITY_TIME, MPR_WILLING, CONT_SEQ_NUM}
use Rattle.mesh_wire.specs.Lines.{columns, columns_text, hello_line, tc_line}
use Rattle.mesh_wire.specs.Runs.{AreBlocks, host_octets}
use Rattle.mesh_wire.specs.Writes.{alone}

-- a code that is sent, of that time
abbrev pub IsCodeOf : ℕ → ℕ → Type 0
IsCodeOf ticks code = IsSentCode code × (time_value code ≡ ticks)

-- such a code, or 0 where there is no time
abbrev pub IsCodeIfSome : Option ℕ → ℕ → Type 0
IsCodeIfSome None code = code ≡ 0
IsCodeIfSome (Some ticks) code = IsCodeOf ticks code

-- the octet of willingness
abbrev pub octet_of : Willing → ℕ
octet_of willing = 16 * willing.flooding + willing.routing

-- the address as a whole one
abbrev pub whole : Addr4 → RawAddr
whole address = record { octets = host_octets address.0; prefix = 32 }

-- the values of a HELLO: its times, its willingness, and those of its lines
abbrev pub HasHelloValues : Hello → List AddressRecord → List ℕ → Type 0
HasHelloValues hello lines values =
    (validity : ℕ) × (interval : ℕ) × IsCodeOf hello.validity validity × IsCodeIfSome hello.interval interval
    × (values ≡ validity ∷ (interval ∷ (octet_of hello.willing ∷ columns_text columns lines)))

-- the values of a TC behind its validity: its interval, the number of its content, and those of its lines
abbrev pub HasTcValues : Tc → List AddressRecord → List ℕ → Type 0
HasTcValues tc lines values =
    (interval : ℕ) × IsCodeIfSome tc.interval interval × (values ≡ interval ∷ (tc.ansn / 256 ∷ (tc.ansn % 256 ∷ columns_text columns lines)))

-- a TLV with a value
abbrev pub saying : ℕ → ℕ → List ℕ → TlvFields
saying kind ext octets = record { kind = kind; ext = ext; value = Some octets }

-- the message TLVs: the validity, the first of the other octets as interval where there is one, and those behind it
abbrev pub heading_of : List ℕ → List ℕ → Bool → ℕ → ℕ → List TlvFields
heading_of validity values has_interval kind ext =
    saying VALIDITY_TIME 0 validity
    ∷ ((if has_interval then saying INTERVAL_TIME 0 (take 1 values) ∷ [] else []) ++ saying kind ext (drop 1 values) ∷ [])

-- the message of a HELLO
pub record IsHelloMessage (hello : Hello) (lines : List AddressRecord) (values : List ℕ) (m : MessageFields) : Type 0 where
  pub kind : m.kind ≡ 0
  pub width : m.width ≡ 4
  pub originator : m.originator ≡ option_map whole hello.originator
  pub limit : m.limit ≡ None
  pub count : m.count ≡ None
  pub sequence : m.sequence ≡ None
  pub tlvs : m.tlvs ≡ heading_of (take 1 values) (slice_range values 1 3) (is_some hello.interval) MPR_WILLING 0
  pub blocks : AreBlocks lines m.blocks

-- the message of a TC
pub record IsTcMessage (tc : Tc) (hop_limit : ℕ) (validity : List ℕ) (lines : List AddressRecord) (values : List ℕ) (m : MessageFields) : Type 0 where
  pub kind : m.kind ≡ 1
  pub width : m.width ≡ 4
  pub originator : m.originator ≡ Some (whole tc.originator)
  pub limit : m.limit ≡ Some hop_limit
  pub count : m.count ≡ Some 0
  pub sequence : m.sequence ≡ Some tc.sequence
  pub tlvs : m.tlvs ≡ heading_of validity (take 3 values) (is_some tc.interval) CONT_SEQ_NUM (if tc.complete then 0 else 1)
  pub blocks : AreBlocks lines m.blocks

-- a message of the HELLO, with values that are laid for it
abbrev pub DraftsHello : Hello → MessageFields → Type 0
DraftsHello hello m =
    (values : List ℕ) × HasHelloValues hello (map hello_line hello.rows) values
    × IsHelloMessage hello (map hello_line hello.rows) values m

-- a message of the TC with that validity, with values that are laid for it
abbrev pub DraftsTc : Tc → ℕ → List ℕ → MessageFields → Type 0
DraftsTc tc hop_limit validity m =
    (values : List ℕ) × HasTcValues tc (map tc_line tc.rows) values
    × IsTcMessage tc hop_limit validity (map tc_line tc.rows) values m

-- each least form of a packet of the message alone fits a datagram
abbrev pub FitsAlone : MessageFields → Type 0
FitsAlone message = (bytes : List ℕ) → LeastForm (alone message) bytes → length bytes ≤ LONGEST_DATAGRAM
