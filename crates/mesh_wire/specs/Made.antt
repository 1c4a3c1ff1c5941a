-- What is kept of a message, and the rules that it breaks.
use Rattle.std.specs.Prelude.{◌≡◌, ℕ, List, length, Option, Some, None, Result, Ok, Err}
use Rattle.mesh_atoms.specs.declared.addr.NetAddr.{NetAddr}
use Rattle.mesh_wire.specs.declared.collect.AddressParts.{AddressParts}
use Rattle.mesh_wire.specs.Collects.{AreCollected}
use Rattle.mesh_wire.specs.Entries.{Entry}
use Rattle.mesh_wire.specs.RowRules.{first_rule}

-- what is kept of a message breaks no rule
pub record BreakNone (rule : AddressParts → Option ℕ) (entries : List Entry) (told : List AddressParts) : Type 0 where
  pub collected : AreCollected entries told
  pub clean : first_rule rule None told ≡ None

-- it breaks the rule of that number first, at that address
pub record HasBroken (rule : AddressParts → Option ℕ) (entries : List Entry) (number : ℕ) (addr : Option NetAddr) : Type 0 where
  pub told : List AddressParts
  pub collected : AreCollected entries told
  pub net : NetAddr
  pub found : first_rule rule None told ≡ Some (number, net)
  pub at : addr ≡ Some net

-- so much is kept, and breaks no rule
abbrev pub HasKept : (AddressParts → Option ℕ) → List Entry → ℕ → Type 0
HasKept rule entries count = (told : List AddressParts) × BreakNone rule entries told × (count ≡ length told)

-- the first rule that is broken: the one on what stands before the rows, if that breaks one, else the first that what is kept breaks
abbrev pub BreaksFirst : {H : Type 0} → Result H ℕ → (AddressParts → Option ℕ) → List Entry → ℕ → Option NetAddr → Type 0
BreaksFirst (Err first) rule entries number addr = (number ≡ first) × (addr ≡ None)
BreaksFirst (Ok header) rule entries number addr = HasBroken rule entries number addr
