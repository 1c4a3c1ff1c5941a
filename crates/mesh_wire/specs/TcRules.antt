-- The rules that a TC keeps, by number.
use Rattle.std.specs.Prelude.{◌≡◌, ℕ, ◌<◌, ◌≢◌, Option, Some, None, Bool}
use Rattle.mesh_atoms.specs.declared.addr.NetAddr.{NetAddr}
use Rattle.mesh_atoms.specs.declared.tc_rule.TheConstants as rule
use Rattle.mesh_wire.specs.declared.octets.OctetKind.TheVariants as kinds
use Rattle.mesh_atoms.specs.declared.tlv_type.TheConstants.{NBR_ADDR_TYPE, GATEWAY}
use Rattle.mesh_packet.specs.Fields.{MessageFields}
use Rattle.mesh_wire.specs.Metrics.{HasWrongMetric}
use Rattle.mesh_wire.specs.Rows.{HasType, HasTwoValues}
use Rattle.mesh_wire.specs.Rules.{HasUndefined}
use Rattle.mesh_wire.specs.Tc.{ContentIs}
use Rattle.mesh_wire.specs.Times.{distance_of, ValidityIs, IntervalIs}

-- the TC breaks the rule of that number, at that address where the rule is about addresses
pub data BreaksTc (message : MessageFields) : ℕ → Option NetAddr → Type 0 where
  -- addresses of IPv4
  AddressWidth : message.width ≢ 4 → BreaksTc message rule.ADDRESS_WIDTH None
  -- an originator and a sequence number (RFC 7181, section 16.1)
  NoOriginator : message.originator ≡ None → BreaksTc message rule.HEADING None
  NoSequence : message.sequence ≡ None → BreaksTc message rule.HEADING None
  -- one VALIDITY_TIME, with a time above 0 at the message's distance, and one INTERVAL_TIME at most
  NoValidity : ((ticks : ℕ) → ValidityIs message (distance_of message.count) ticks → ⊥) → BreaksTc message rule.VALIDITY None
  WrongInterval : ((ticks : Option ℕ) → IntervalIs message (distance_of message.count) ticks → ⊥) → BreaksTc message rule.INTERVAL None
  -- one CONT_SEQ_NUM, of two octets
  Content : ((ansn : ℕ) (complete : Bool) → ContentIs message ansn complete → ⊥) → BreaksTc message rule.CONTENT None
  -- NBR_ADDR_TYPE is one octet of 1 to 3, one value on each address, on whole addresses
  AddrType : (net : NetAddr) → HasUndefined message net kinds.AddrType → BreaksTc message rule.ADDR_TYPE (Some net)
  TwoAddrTypes : (net : NetAddr) → HasTwoValues message net NBR_ADDR_TYPE → BreaksTc message rule.ADDR_TYPE (Some net)
  ShortPrefix : (net : NetAddr) → HasType message net NBR_ADDR_TYPE → net.prefix < 32 → BreaksTc message rule.ADDR_TYPE (Some net)
  -- GATEWAY is one octet, one value on each address, and not beside NBR_ADDR_TYPE
  GatewayOctet : (net : NetAddr) → HasUndefined message net kinds.Gateway → BreaksTc message rule.GATEWAY (Some net)
  TwoGateways : (net : NetAddr) → HasTwoValues message net GATEWAY → BreaksTc message rule.GATEWAY (Some net)
  Beside : (net : NetAddr) → HasType message net GATEWAY → HasType message net NBR_ADDR_TYPE → BreaksTc message rule.GATEWAY (Some net)
  -- metrics of two octets, with one code of each kind on an address
  WrongMetric : (net : NetAddr) → HasWrongMetric message net → BreaksTc message rule.METRIC (Some net)
