-- Arcs joined one after the other.
use Rattle.mesh_config.proofs.Common.{List, ◌++◌, Ok, Err, ReadValue}

-- what was read, in front of what is still to be
abbrev pub after_front : {A : Type 0} → List A → ReadValue (List A) → ReadValue (List A)
after_front front (Err f) = Err f
after_front front (Ok xs) = Ok (front ++ xs)
