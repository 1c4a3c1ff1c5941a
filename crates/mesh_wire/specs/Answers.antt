-- What a reading of a message answers.
use Rattle.std.specs.Prelude.{◌≡◌, ℕ, Option, Result, Ok, Err, IfOk, IfErr}
use Rattle.mesh_atoms.specs.declared.addr.NetAddr.{NetAddr}
use Rattle.mesh_wire.specs.declared.fault.WireFault.{WireFault}
use Rattle.mesh_wire.specs.declared.fault.WireFault.TheVariants as faults
use Rattle.mesh_wire.specs.Rules.{Keeps, FirstBroken}

-- a fact of the rule and the address, where the fault isn't an allocation failure
abbrev pub IfBroken : (ℕ → Option NetAddr → Type 0) → WireFault → Type 0
IfBroken P (faults.Memory e) = Unit {0}
IfBroken P (faults.Broken number addr) = P number addr

-- that value, or an allocation failure
abbrev pub GivesValue : {X : Type 0} → X → Result X WireFault → Type 0
GivesValue x (Ok y) = y ≡ x
GivesValue x (Err (faults.Memory e)) = Unit {0}
GivesValue x (Err (faults.Broken number addr)) = ⊥

-- that rule at that address, or an allocation failure
abbrev pub RefusesAt : {X : Type 0} → ℕ → Option NetAddr → Result X WireFault → Type 0
RefusesAt number addr (Ok y) = ⊥
RefusesAt number addr (Err (faults.Memory e)) = Unit {0}
RefusesAt number addr (Err (faults.Broken n a)) = (n ≡ number) × (a ≡ addr)

-- what is read of a message, where `Is` is what a value has to be that the message says, and `Breaks` which rules the message breaks
pub record ReadsOrRefuses {X : Type 0} (Is : X → Type 0) (Breaks : ℕ → Option NetAddr → Type 0) (result : Result X WireFault) : Type 0 where
  -- what is read is what the message says, and the message breaks no rule
  pub says : IfOk result Is
  pub keeps : IfOk result (λ value. Keeps Breaks)
  -- else the fault is the first rule that is broken, at the least address, or an allocation failure
  pub broken : IfErr result (IfBroken (FirstBroken Breaks))
  -- a message that says a value and breaks no rule is read as that
  pub only : (value : X) → Keeps Breaks → Is value → GivesValue value result
  -- a message that breaks rules is refused by the first
  pub first : (number : ℕ) (addr : Option NetAddr) → FirstBroken Breaks number addr → RefusesAt number addr result

-- the summary of a value of which that holds
abbrev pub Sums : {X S : Type 0} → (X → S) → (X → Type 0) → S → Type 0
Sums {X} summary_of Is summary = (value : X) × Is value × (summary ≡ summary_of value)
