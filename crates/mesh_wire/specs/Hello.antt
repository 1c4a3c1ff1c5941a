-- The HELLO that a message reads as (RFC 6130, section 10; RFC 7181, section 15).
use Rattle.std.specs.Prelude.{◌≡◌, ℕ, ◌/◌, ◌%◌, ◌⊎◌, ◌↔◌, [], ◌∷◌, Contains, Option, Some, None, IsTrue, IsSome}
use Rattle.std.specs.Option.{option_map}
use Rattle.mesh_atoms.specs.declared.addr.Addr4.{Addr4}
use Rattle.mesh_atoms.specs.declared.hello.LocalIf.{LocalIf}
use Rattle.mesh_atoms.specs.declared.hello.LocalIf.TheVariants.{This, Other}
use Rattle.mesh_atoms.specs.declared.hello.LinkStatus.{LinkStatus}
use Rattle.mesh_atoms.specs.declared.hello.LinkStatus.TheVariants as link
use Rattle.mesh_atoms.specs.declared.hello.OtherStatus.{OtherStatus}
use Rattle.mesh_atoms.specs.declared.hello.OtherStatus.TheVariants as other
use Rattle.mesh_atoms.specs.declared.hello.Willing.{Willing}
use Rattle.mesh_atoms.specs.declared.hello.HelloRow.{HelloRow}
use Rattle.mesh_atoms.specs.declared.hello.Hello.{Hello}
use Rattle.mesh_atoms.specs.Writable.{IsAlone}
use Rattle.mesh_atoms.specs.Octets.{address_in}
use Rattle.mesh_atoms.specs.declared.tlv_type.TheConstants.{MPR_WILLING, LOCAL_IF, MPR}
use Rattle.mesh_wire.specs.declared.octets.OctetKind.{OctetKind}
use Rattle.mesh_wire.specs.declared.octets.OctetKind.TheVariants as kinds
use Rattle.mesh_addr.specs.declared.records.RawAddr.{RawAddr}
use Rattle.mesh_packet.specs.Fields.{MessageFields}
use Rattle.mesh_wire.specs.Parts.{values_of}
use Rattle.mesh_wire.specs.Metrics.{MetricKind, MetricIs, metric_of}
use Rattle.mesh_wire.specs.OctetKinds.{statuses, type_of, flags_number}
use Rattle.mesh_wire.specs.Rows.{OctetIs, SaysFlag, AreRows}
use Rattle.mesh_wire.specs.Times.{ValidityIs, IntervalIs}

-- LOCAL_IF by its value
abbrev pub local_value : LocalIf → ℕ
local_value This = 0
local_value Other = 1

-- LINK_STATUS by its value
abbrev pub link_value : LinkStatus → ℕ
link_value link.Lost = 0
link_value link.Symmetric = 1
link_value link.Heard = 2

-- OTHER_NEIGHB by its value
abbrev pub other_value : OtherStatus → ℕ
other_value other.Lost = 0
other_value other.Symmetric = 1

-- what a row says of its address by a type whose values are one octet
abbrev pub row_octet : HelloRow → OctetKind → Option ℕ
row_octet row kinds.Local = option_map local_value row.local
row_octet row kinds.Link = option_map link_value row.link
row_octet row kinds.Other = option_map other_value row.other
row_octet row kinds.Mpr = flags_number row.mpr.flooding row.mpr.routing
row_octet row kind = None

-- the originator is that of the header, if it has one
abbrev pub OriginatorIs : Option RawAddr → Option Addr4 → Type 0
OriginatorIs None None = Unit {0}
OriginatorIs (Some address) (Some originator) = originator.0 ≡ address_in address.octets
OriginatorIs None (Some originator) = ⊥
OriginatorIs (Some address) None = ⊥

-- the octet of willingness: that of the one MPR_WILLING, or 7 and 7 without one (RFC 7181, section 13.3.1)
abbrev pub HasWilling : MessageFields → ℕ → Type 0
HasWilling message octet =
    ((values_of MPR_WILLING message ≡ []) × (octet ≡ 119)) ⊎ (values_of MPR_WILLING message ≡ (octet ∷ []) ∷ [])

-- how willing the sender is: for flooding by the high 4 bits, for routing by the low 4
abbrev pub WillingIs : MessageFields → Willing → Type 0
WillingIs message willing = (octet : ℕ) × HasWilling message octet × (willing.flooding ≡ octet / 16) × (willing.routing ≡ octet % 16)

-- all that the message says of an address that isn't the sender's
pub record TellsOther (message : MessageFields) (row : HelloRow) : Type 0 where
  pub status : (kind : OctetKind) → Contains statuses kind → OctetIs message row.addr (type_of kind) (row_octet row kind)
  pub metric : (kind : MetricKind) → MetricIs message row.addr kind (metric_of kind row.metrics)
  pub flooding : IsTrue row.mpr.flooding ↔ SaysFlag message row.addr MPR 1
  pub routing : IsTrue row.mpr.routing ↔ SaysFlag message row.addr MPR 2

-- the row says of its address what the message does; of an address of the sender's it says no more than that
pub record IsReadHelloRow (message : MessageFields) (row : HelloRow) : Type 0 where
  pub local : OctetIs message row.addr LOCAL_IF (option_map local_value row.local)
  pub of_other : row.local ≡ None → TellsOther message row
  pub of_sender : IsSome row.local → IsAlone row

-- the message reads as the HELLO
pub record HelloIs (message : MessageFields) (hello : Hello) : Type 0 where
  pub originator : OriginatorIs message.originator hello.originator
  pub validity : ValidityIs message 1 hello.validity
  pub interval : IntervalIs message 1 hello.interval
  pub willing : WillingIs message hello.willing
  pub rows : AreRows message (λ (row : HelloRow). row.addr) (IsReadHelloRow message) hello.rows
