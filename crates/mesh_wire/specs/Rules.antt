-- What rules on values say, and the first rule that is broken.
use Rattle.std.specs.Prelude.{ℕ, ◌≤◌, List, Option, Some, None}
use Rattle.mesh_atoms.specs.declared.addr.NetAddr.{NetAddr}
use Rattle.mesh_atoms.specs.Nodes.{IsAtMost}
use Rattle.mesh_packet.specs.Fields.{MessageFields}
use Rattle.mesh_wire.specs.declared.octets.OctetKind.{OctetKind}
use Rattle.mesh_wire.specs.OctetKinds.{type_of, IsOctetOf}
use Rattle.mesh_wire.specs.Rows.{HasValue}

-- the type has a value on the address that isn't one octet of its range
abbrev pub HasUndefined : MessageFields → NetAddr → OctetKind → Type 0
HasUndefined message net kind = (octets : List ℕ) × HasValue message net (type_of kind) octets × (IsOctetOf kind octets → ⊥)

-- no rule is broken
abbrev pub Keeps : (ℕ → Option NetAddr → Type 0) → Type 0
Keeps Breaks = (number : ℕ) (address : Option NetAddr) → Breaks number address → ⊥

-- none, or an address that isn't above the other
abbrev pub IsLow : Option NetAddr → Option NetAddr → Type 0
IsLow (Some a) (Some b) = IsAtMost a b
IsLow (Some a) None = ⊥
IsLow None b = Unit {0}

-- of the rules that are broken the one of least number, and of the addresses that break it the least
pub record FirstBroken (Breaks : ℕ → Option NetAddr → Type 0) (number : ℕ) (address : Option NetAddr) : Type 0 where
  pub broken : Breaks number address
  pub first : (n : ℕ) (a : Option NetAddr) → Breaks n a → number ≤ n
  pub least : (a : Option NetAddr) → Breaks number a → IsLow address a
