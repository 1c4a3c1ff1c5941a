-- Arcs by the interfaces that they leave.
use Rattle.mesh_machine.proofs.Common.{ℕ, List, drop, filter, enumerate_from, RadioArc, leaves}

-- the arcs from number k on that leave an interface
abbrev pub leaving_from : List RadioArc → ℕ → ℕ → ℕ → List (ℕ × RadioArc)
leaving_from arcs x i k = filter (λ a. leaves x i a.1) (enumerate_from k (drop k arcs))
