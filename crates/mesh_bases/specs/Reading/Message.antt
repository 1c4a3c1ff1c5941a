-- What a message reads as.
use Rattle.std.specs.Prelude.{◌≡◌, ◌≢◌, ◌<◌, ◌^◌, ℕ, Option, IfSome, IsNone}
use Rattle.mesh_atoms.specs.declared.addr.NetAddr.{NetAddr}
use Rattle.mesh_atoms.specs.declared.hello.Hello.{Hello}
use Rattle.mesh_atoms.specs.declared.tc.Tc.{Tc}
use Rattle.mesh_bases.specs.declared.reading.message.TypedMessage.{TypedMessage}
use Rattle.mesh_bases.specs.declared.reading.message.TypedMessage.TheVariants as typed
use Rattle.mesh_flood.specs.declared.verdict.Heading.{Heading}
use Rattle.mesh_machine.specs.Messages.{IsHeading}
use Rattle.mesh_packet.specs.Fields.{MessageFields}
use Rattle.mesh_wire.specs.Hello.{HelloIs}
use Rattle.mesh_wire.specs.HelloRules.{BreaksHello}
use Rattle.mesh_wire.specs.Rules.{Keeps, FirstBroken}
use Rattle.mesh_wire.specs.Tc.{TcIs}
use Rattle.mesh_wire.specs.TcRules.{BreaksTc}

-- a HELLO that breaks no rule says this
pub record IsReadAsHello (message : MessageFields) (hello : Hello) : Type 0 where
  pub kind : message.kind ≡ 0
  pub keeps : Keeps (BreaksHello message)
  pub says : HelloIs message hello
  pub validity : hello.validity < 2 ^ 35

-- a TC that breaks no rule says this, and this is its heading
pub record IsReadAsTc (message : MessageFields) (heading : Heading) (tc : Tc) : Type 0 where
  pub kind : message.kind ≡ 1
  pub keeps : Keeps (BreaksTc message)
  pub says : TcIs message tc
  pub validity : tc.validity < 2 ^ 35
  pub heading_is : IsHeading message heading

-- a HELLO or a TC that breaks rules: the number of the first
pub data IsReadAsBroken (message : MessageFields) (number : ℕ) : Type 0 where
  Hello_breaks : (net : Option NetAddr) → message.kind ≡ 0 → FirstBroken (BreaksHello message) number net → IsReadAsBroken message number
  Tc_breaks : (net : Option NetAddr) → message.kind ≡ 1 → FirstBroken (BreaksTc message) number net → IsReadAsBroken message number

-- a message of another type: its heading, or none where it can't be flooded
pub record IsReadAsOther (message : MessageFields) (answer : Option Heading) : Type 0 where
  pub no_hello : message.kind ≢ 0
  pub no_tc : message.kind ≢ 1
  pub some : IfSome answer (IsHeading message)
  pub none : IsNone answer → (heading : Heading) → IsHeading message heading → ⊥

-- what a message reads as
abbrev pub IsReadAs : MessageFields → TypedMessage → Type 0
IsReadAs message (typed.Hello hello) = IsReadAsHello message hello
IsReadAs message (typed.Tc heading tc) = IsReadAsTc message heading tc
IsReadAs message (typed.Broken number) = IsReadAsBroken message number
IsReadAs message (typed.Other answer) = IsReadAsOther message answer
