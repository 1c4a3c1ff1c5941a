use Rattle.mesh_atoms.proofs.Common.{◌≡◌, take, map, All, []}
use Rattle.mesh_atoms.proofs.quality.without_steps.Given as goal

abbrev pub invariant-loop-sender : goal.invariant-loop-sender
invariant-loop-sender l =
    (map (λ s. s.sender) l.all ≡ map (λ s. s.sender) (take l.sender-index l.sender-items)) × All (λ s. s.steps ≡ []) l.all
