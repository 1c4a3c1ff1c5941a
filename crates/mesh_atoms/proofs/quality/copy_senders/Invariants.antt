use Rattle.mesh_atoms.proofs.Common.{◌≡◌, take}
use Rattle.mesh_atoms.proofs.quality.copy_senders.Given as goal

abbrev pub invariant-loop-sender : goal.invariant-loop-sender
invariant-loop-sender l = l.copies ≡ take l.sender-index l.sender-items
