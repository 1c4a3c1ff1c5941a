use Rattle.mesh_atoms.proofs.Common.{◌≡◌, drop, list_all, is_name_octet}
use Rattle.mesh_atoms.proofs.literals.are_name_octets.Given as goal

abbrev pub invariant-loop-octet : goal.invariant-loop-octet
invariant-loop-octet l = list_all is_name_octet l.text ≡ list_all is_name_octet (drop l.octet-index l.text)
