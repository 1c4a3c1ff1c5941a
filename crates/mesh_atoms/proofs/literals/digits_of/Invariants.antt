use Rattle.mesh_atoms.proofs.Common.{◌≡◌, ◌≤◌, drop}
use Rattle.mesh_atoms.specs.Literals.{digits_of}
use Rattle.mesh_atoms.proofs.literals.digits_of.Given as goal

abbrev pub invariant-loop-octet : goal.invariant-loop-octet
invariant-loop-octet l = (l.n ≤ l.most) × (digits_of l.most 0 l.text ≡ digits_of l.most l.n (drop l.octet-index l.text))
