-- What a TC says before its rows, and how a row is made of what is kept of its address.
use Rattle.std.specs.Prelude.{◌≡◌, List, filter, Some, ◌==◌, ◌&&◌, nat_lt}
use Rattle.mesh_atoms.specs.declared.tc.TcRow.{TcRow}
use Rattle.mesh_tlv.specs.Fields.{TlvFields}
use Rattle.mesh_packet.specs.Fields.{MessageFields}
use Rattle.mesh_wire.specs.declared.collect.AddressParts.{AddressParts}
use Rattle.mesh_wire.specs.declared.tc.TcHeader.{TcHeader}
use Rattle.mesh_wire.specs.Hello.{OriginatorIs}
use Rattle.mesh_atoms.specs.declared.tlv_type.TheConstants.{CONT_SEQ_NUM}
use Rattle.mesh_wire.specs.Singles.{value_from}
use Rattle.mesh_wire.specs.Tc.{ContentIs}
use Rattle.mesh_wire.specs.Times.{distance_of, ValidityIs, IntervalIs}

-- the TLVs CONT_SEQ_NUM of extension 0 or 1
abbrev pub contents_in : List TlvFields → List TlvFields
contents_in tlvs = filter (λ (p : TlvFields). p.kind == CONT_SEQ_NUM && nat_lt p.ext 2) tlvs

-- no rule on it is broken, and it says this
pub record TcHeaderIs (message : MessageFields) (header : TcHeader) : Type 0 where
  pub width : message.width ≡ 4
  pub originator : OriginatorIs message.originator (Some header.originator)
  pub sequence : message.sequence ≡ Some header.sequence
  pub validity : ValidityIs message (distance_of message.count) header.validity
  pub interval : IntervalIs message (distance_of message.count) header.interval
  pub content : ContentIs message header.content.ansn header.content.complete

-- the row of what is kept of an address
abbrev pub tc_row : AddressParts → TcRow
tc_row told = record {
  dest = told.net;
  origin = told.parts.octets.addr_type.first;
  routable = told.parts.octets.addr_type.second;
  gateway = value_from told.parts.octets.gateway.one;
  metric = value_from told.parts.metrics.near_out;
}
