-- What follows the front of a line.
use Rattle.mesh_trace.proofs.Common.{common_steps, ◌≡◌, ℕ, ◌+◌, ◌-◌, List, ◌∷◌, ◌++◌, length, take, drop, arith, Option, IfSome, IsNone, length-drop, take_all, lines_of, heads_equal, lines_from, IsRest}
use Rattle.std.specs.Borrow.{Bor}
use Rattle.mesh_trace.specs.declared.reading.Reader.{Reader}

pub rest_is : (trace : List ℕ) (reader : Reader) (front line : List ℕ) (more : List (List ℕ)) (result : Option (Bor (List ℕ))) → front ≡ reader.text →
    lines_from trace reader.at ≡ line ∷ more → IfSome result (λ rest. line ≡ front ++ rest.now) →
    (IsNone result → (rest : List ℕ) → line ≡ front ++ rest → ⊥) → IsRest trace reader result
rest_is trace reader front line more result text here some none = grind (arith, common_steps, heads_equal)

-- a slice from a place on
cut_is : (trace : List ℕ) (at : ℕ) → take (length trace - at) (drop at trace) ≡ drop at trace
cut_is trace at = take_all (length trace - at) (drop at trace) (let h = length-drop at trace in omega (arith, h))

-- the first line from a place on
pub from_here : (trace line : List ℕ) (at len : ℕ) →
    lines_of (take (length trace - at) (drop at trace)) ≡ line ∷ lines_of (drop len (take (length trace - at) (drop at trace))) →
    lines_from trace at ≡ line ∷ lines_from trace (at + len)
from_here trace line at len same = grind (arith, common_steps, cut_is)
