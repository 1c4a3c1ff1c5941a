use Rattle.mesh_atoms.proofs.Common.{◌≡◌, ◌≤◌, drop, cond, nat_le, fold}
use Rattle.mesh_atoms.proofs.quality.sender_quality.Given as goal

abbrev pub invariant-loop-step : goal.invariant-loop-step
invariant-loop-step l =
    (l.quality ≤ 100)
    × (fold (λ quality step. cond (nat_le step.at l.now) step.quality quality) 100 l.steps
    ≡ fold (λ quality step. cond (nat_le step.at l.now) step.quality quality) l.quality (drop l.step-index l.steps))
