-- What is found of a list, looked through from its front.
use Rattle.mesh_wire.proofs.Common.{List, [], ◌∷◌, Option, Some, None}

-- the one that was found, if one was, as it is seen
abbrev pub front : {T X : Type 0} → (T → X) → Option T → List X
front view None = []
front view (Some found) = view found ∷ []
