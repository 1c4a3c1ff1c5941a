-- What is refused, in other words.
use Rattle.mesh_bases.proofs.Common.{arith, common_steps, ℕ, Option, NetAddr}
use Rattle.mesh_wire.specs.declared.fault.WireFault.{WireFault}
use Rattle.mesh_wire.specs.Answers.{IfBroken}

-- what follows of a broken rule follows of a fault
pub if_broken_more : {P Q : ℕ → Option NetAddr → Type 0} (fault : WireFault) → ((number : ℕ) (net : Option NetAddr) → P number net → Q number net) → IfBroken P fault → IfBroken Q fault
if_broken_more fault more h = grind (arith, common_steps)
