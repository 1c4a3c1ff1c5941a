-- The rules that a HELLO keeps, by number.
use Rattle.std.specs.Prelude.{◌≡◌, ℕ, ◌<◌, ◌≢◌, Contains, Option, Some, None}
use Rattle.mesh_atoms.specs.declared.addr.NetAddr.{NetAddr}
use Rattle.mesh_atoms.specs.declared.hello_rule.TheConstants as rule
use Rattle.mesh_wire.specs.Hello.{HasWilling}
use Rattle.mesh_packet.specs.Fields.{MessageFields}
use Rattle.mesh_wire.specs.declared.octets.OctetKind.{OctetKind}
use Rattle.mesh_wire.specs.Metrics.{HasWrongMetric}
use Rattle.mesh_wire.specs.OctetKinds.{statuses, type_of}
use Rattle.mesh_wire.specs.Rows.{HasType, HasTwoValues}
use Rattle.mesh_wire.specs.Rules.{HasUndefined}
use Rattle.mesh_wire.specs.Times.{ValidityIs, IntervalIs}

-- the HELLO breaks the rule of that number, at that address where the rule is about addresses
pub data BreaksHello (message : MessageFields) : ℕ → Option NetAddr → Type 0 where
  -- addresses of IPv4
  AddressWidth : message.width ≢ 4 → BreaksHello message rule.ADDRESS_WIDTH None
  -- a HELLO goes one hop (RFC 7181, section 15.1)
  HopLimit : (limit : ℕ) → message.limit ≡ Some limit → limit ≢ 1 → BreaksHello message rule.HOP_LIMIT None
  HopCount : (count : ℕ) → message.count ≡ Some count → count ≢ 0 → BreaksHello message rule.HOP_COUNT None
  -- one VALIDITY_TIME, with a time above 0, and one INTERVAL_TIME at most
  NoValidity : ((ticks : ℕ) → ValidityIs message 1 ticks → ⊥) → BreaksHello message rule.VALIDITY None
  WrongInterval : ((ticks : Option ℕ) → IntervalIs message 1 ticks → ⊥) → BreaksHello message rule.INTERVAL None
  -- one MPR_WILLING at most, of one octet
  WrongWilling : ((octet : ℕ) → HasWilling message octet → ⊥) → BreaksHello message rule.WILLING None
  -- LOCAL_IF, LINK_STATUS and OTHER_NEIGHB have a defined value, one on each address, on whole addresses
  Undefined : (net : NetAddr) (kind : OctetKind) → Contains statuses kind → HasUndefined message net kind → BreaksHello message rule.UNDEFINED (Some net)
  TwoValues : (net : NetAddr) (kind : OctetKind) → Contains statuses kind → HasTwoValues message net (type_of kind) →
      BreaksHello message rule.TWO_VALUES (Some net)
  ShortPrefix : (net : NetAddr) (kind : OctetKind) → Contains statuses kind → HasType message net (type_of kind) → net.prefix < 32 →
      BreaksHello message rule.PREFIX (Some net)
  -- metrics of two octets, with one code of each kind on an address
  WrongMetric : (net : NetAddr) → HasWrongMetric message net → BreaksHello message rule.METRIC (Some net)
