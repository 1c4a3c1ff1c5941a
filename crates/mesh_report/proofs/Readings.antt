-- That what is told of a message that was read is how it reads.
use Rattle.mesh_report.proofs.Common.{arith, common_steps, ℕ, List, Option, Result, IfOk, IfErr, NetAddr, Keeps, FirstBroken, TellsRead, ReadsMessage}
use Rattle.mesh_wire.specs.Answers.{IfBroken, Sums}
use Rattle.mesh_wire.specs.declared.fault.WireFault.{WireFault}

pub told_reads : {X S : Type 0} {Breaks : ℕ → Option NetAddr → Type 0} {Is : X → Type 0} (summary_of : X → S) (line_of : S → List ℕ) {text : List ℕ} (read : Result S WireFault)
    → IfOk read (Sums summary_of Is) → IfOk read (λ summary. Keeps Breaks) → IfErr read (IfBroken (FirstBroken Breaks)) → TellsRead line_of read text → ReadsMessage Breaks Is (λ value. line_of (summary_of value)) text
told_reads summary_of line_of read sums keeps broken told = grind (arith, common_steps)
