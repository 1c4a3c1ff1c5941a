-- What a HELLO says before its rows.
use Rattle.std.specs.Prelude.{◌≡◌, ℕ, ◌≢◌, Option, Some}
use Rattle.mesh_packet.specs.Fields.{MessageFields}
use Rattle.mesh_wire.specs.declared.hello.HelloHeader.{HelloHeader}
use Rattle.mesh_wire.specs.Hello.{WillingIs}
use Rattle.mesh_wire.specs.Times.{ValidityIs, IntervalIs}

-- a number that is there, and another one
abbrev pub IsOther : ℕ → Option ℕ → Type 0
IsOther n value = (m : ℕ) × (value ≡ Some m) × (m ≢ n)

-- no rule on it is broken, and it says this
pub record HelloHeaderIs (message : MessageFields) (header : HelloHeader) : Type 0 where
  pub width : message.width ≡ 4
  pub limit : IsOther 1 message.limit → ⊥
  pub count : IsOther 0 message.count → ⊥
  pub validity : ValidityIs message 1 header.validity
  pub interval : IntervalIs message 1 header.interval
  pub willing : WillingIs message header.willing
