-- Code 254 bounds the times, and rounding up stays at or below it.
use Rattle.mesh_atoms.proofs.Common.{◌<◌, inl, inr, refl, arith, time_value}
use Rattle.mesh_atoms.proofs.CodesLemmas.CodeLaws.{sent_most}
use Rattle.mesh_atoms.proofs.codes.codes.time_code_at_least.Goals as goal

pub returns-then-ticks-clause-none : goal.returns-then-ticks-clause-none
returns-then-ticks-clause-none c = (λ none code sent. omega (arith, sent_most code sent), λ all. refl)

pub returns-clause-sent : goal.returns-clause-sent
returns-clause-sent c = elim (c.rounded_up-exponent.ensures.least 31 14 (omega arith) (omega arith) (omega arith)) [
  | inl lt ↦ (omega arith, omega arith)
  | inr both ↦ (omega arith, omega arith)
]

pub returns-clause-none : goal.returns-clause-none
returns-clause-none c = (λ none. cc, λ all. (let lt : time_value 254 < c.args.ticks = all 254 (omega arith, omega arith) in absurd (omega arith)))
