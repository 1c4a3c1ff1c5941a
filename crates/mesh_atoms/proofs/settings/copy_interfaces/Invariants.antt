use Rattle.mesh_atoms.proofs.Common.{◌≡◌, take}
use Rattle.mesh_atoms.proofs.settings.copy_interfaces.Given as goal

abbrev pub invariant-loop-interface : goal.invariant-loop-interface
invariant-loop-interface l = l.copies ≡ take l.interface-index l.interface-items
