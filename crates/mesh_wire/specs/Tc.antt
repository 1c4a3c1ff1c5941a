-- The TC that a message reads as (RFC 7181, section 16).
use Rattle.std.specs.Prelude.{◌≡◌, ℕ, ◌+◌, ◌*◌, ◌↔◌, List, [], ◌∷◌, filter, Some, IsTrue, Bool, ◌==◌, ◌&&◌, nat_lt}
use Rattle.mesh_atoms.specs.declared.tc.TcRow.{TcRow}
use Rattle.mesh_atoms.specs.declared.tc.Tc.{Tc}
use Rattle.mesh_atoms.specs.declared.tlv_type.TheConstants.{CONT_SEQ_NUM, NBR_ADDR_TYPE, GATEWAY}
use Rattle.mesh_tlv.specs.Fields.{TlvFields}
use Rattle.mesh_packet.specs.Fields.{MessageFields}
use Rattle.mesh_wire.specs.Parts.{octets_of}
use Rattle.mesh_wire.specs.Hello.{OriginatorIs}
use Rattle.mesh_wire.specs.Metrics.{MetricIs, Near_out}
use Rattle.mesh_wire.specs.Rows.{OctetIs, SaysFlag, AreRows}
use Rattle.mesh_wire.specs.Times.{distance_of, ValidityIs, IntervalIs}

-- the TLVs CONT_SEQ_NUM: of extension 0 where all rows are told, and of 1 where not (RFC 7181, section 13.3.1)
abbrev pub contents_of : MessageFields → List TlvFields
contents_of message = filter (λ (p : TlvFields). p.kind == CONT_SEQ_NUM && nat_lt p.ext 2) message.tlvs

-- the one CONT_SEQ_NUM: its number of 16 bits, and whether all rows are told
abbrev pub ContentIs : MessageFields → ℕ → Bool → Type 0
ContentIs message ansn complete =
    (part : TlvFields) × (high : ℕ) × (low : ℕ) × (contents_of message ≡ part ∷ []) × (octets_of part.value ≡ high ∷ low ∷ [])
    × (ansn ≡ 256 * high + low) × (complete ≡ (part.ext == 0))

-- the row says of its address what the message does; its metric is the outgoing one of the neighbour
pub record IsReadTcRow (message : MessageFields) (row : TcRow) : Type 0 where
  pub origin : IsTrue row.origin ↔ SaysFlag message row.dest NBR_ADDR_TYPE 1
  pub routable : IsTrue row.routable ↔ SaysFlag message row.dest NBR_ADDR_TYPE 2
  pub gateway_is : OctetIs message row.dest GATEWAY row.gateway
  pub metric : MetricIs message row.dest Near_out row.metric

-- the message reads as the TC
pub record TcIs (message : MessageFields) (tc : Tc) : Type 0 where
  pub originator : OriginatorIs message.originator (Some tc.originator)
  pub sequence : message.sequence ≡ Some tc.sequence
  pub content : ContentIs message tc.ansn tc.complete
  pub validity : ValidityIs message (distance_of message.count) tc.validity
  pub interval : IntervalIs message (distance_of message.count) tc.interval
  pub rows : AreRows message (λ (row : TcRow). row.dest) (IsReadTcRow message) tc.rows
