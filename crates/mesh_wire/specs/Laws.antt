-- That the definitions of a reading leave no choice and no message out.
use Rattle.std.specs.Prelude.{◌≡◌, ℕ, ◌+◌, ◌<◌, ◌⊎◌, List, Contains, Option}
use Rattle.mesh_atoms.specs.declared.addr.NetAddr.{NetAddr}
use Rattle.mesh_atoms.specs.declared.hello.Hello.{Hello}
use Rattle.mesh_atoms.specs.declared.tc.Tc.{Tc}
use Rattle.mesh_atoms.specs.Codes.Codes.{time_at_distance}
use Rattle.mesh_atoms.specs.Validity.{IsTimeValue}
use Rattle.mesh_packet.specs.Fields.{MessageFields}
use Rattle.mesh_tlv.specs.Fields.{TlvFields}
use Rattle.mesh_wire.specs.Hello.{HelloIs}
use Rattle.mesh_wire.specs.HelloRules.{BreaksHello}
use Rattle.mesh_wire.specs.Parts.{octets_of}
use Rattle.mesh_wire.specs.Rehop.{after_hops}
use Rattle.mesh_wire.specs.Rows.{HasPart}
use Rattle.mesh_wire.specs.Rules.{Keeps, FirstBroken}
use Rattle.mesh_wire.specs.Tc.{TcIs}
use Rattle.mesh_wire.specs.TcRules.{BreaksTc}
use Rattle.mesh_wire.specs.Times.{ValidityIs}
use Rattle.mesh_wire.specs.Writes.{WritesTc}

-- a message that keeps the rules of a HELLO reads as one HELLO at most
abbrev pub ReadsAsOneHello : Type 0
ReadsAsOneHello = (message : MessageFields) → Keeps (BreaksHello message) → (a b : Hello) → HelloIs message a → HelloIs message b → a ≡ b

-- a message that keeps the rules of a TC reads as one TC at most
abbrev pub ReadsAsOneTc : Type 0
ReadsAsOneTc = (message : MessageFields) → Keeps (BreaksTc message) → (a b : Tc) → TcIs message a → TcIs message b → a ≡ b

-- of the rules of a HELLO one at most is the first that is broken, at one address
abbrev pub BreaksOneHelloRule : Type 0
BreaksOneHelloRule =
    (message : MessageFields) (n m : ℕ) (a b : Option NetAddr) → FirstBroken (BreaksHello message) n a →
    FirstBroken (BreaksHello message) m b → (n ≡ m) × (a ≡ b)

-- of the rules of a TC one at most is the first that is broken, at one address
abbrev pub BreaksOneTcRule : Type 0
BreaksOneTcRule =
    (message : MessageFields) (n m : ℕ) (a b : Option NetAddr) → FirstBroken (BreaksTc message) n a →
    FirstBroken (BreaksTc message) m b → (n ≡ m) × (a ≡ b)

-- a value is of octets
abbrev pub IsOctetValue : Option (List ℕ) → Type 0
IsOctetValue value = (n : ℕ) → Contains (octets_of value) n → n < 256

-- so are all values that the message has
pub record HasOctets (message : MessageFields) : Type 0 where
  pub tlvs : (tlv : TlvFields) → Contains message.tlvs tlv → IsOctetValue tlv.value
  pub parts : (net : NetAddr) (part : TlvFields) → HasPart message net part → IsOctetValue part.value

-- a value of which that holds and no rule that is broken, or a first rule that is broken, and not both
abbrev pub ReadsOrBreaks : {Value : Type 0} → (Value → Type 0) → (ℕ → Option NetAddr → Type 0) → Type 0
ReadsOrBreaks {Value} Is Breaks =
    (((value : Value) × Is value × Keeps Breaks) ⊎ ((number : ℕ) × (addr : Option NetAddr) × FirstBroken Breaks number addr))
    × (Keeps Breaks → (number : ℕ) (addr : Option NetAddr) → FirstBroken Breaks number addr → ⊥)

-- each message reads as a HELLO that keeps the rules, or breaks a first rule
abbrev pub ReadsAsHelloOrNot : Type 0
ReadsAsHelloOrNot = (message : MessageFields) → HasOctets message → ReadsOrBreaks (HelloIs message) (BreaksHello message)

-- each message reads as a TC that keeps the rules, or breaks a first rule
abbrev pub ReadsAsTcOrNot : Type 0
ReadsAsTcOrNot = (message : MessageFields) → HasOctets message → ReadsOrBreaks (TcIs message) (BreaksTc message)

-- a TC that may be sent tells, after any number of hops and however it is spelled, the validity that the value has at that distance
abbrev pub TellsAtEachDistance : Type 0
TellsAtEachDistance =
    (tc : Tc) (hop_limit : ℕ) (validity bytes : List ℕ) → (written : WritesTc tc hop_limit validity bytes) → IsTimeValue validity → (hops : ℕ) →
    ValidityIs (after_hops written.message hop_limit hops) (hops + 1) (time_at_distance (hops + 1) validity)

-- and breaks no rule there
abbrev pub KeepsAtEachDistance : Type 0
KeepsAtEachDistance =
    (tc : Tc) (hop_limit : ℕ) (validity bytes : List ℕ) → (written : WritesTc tc hop_limit validity bytes) → IsTimeValue validity → (hops : ℕ) →
    Keeps (BreaksTc (after_hops written.message hop_limit hops))
