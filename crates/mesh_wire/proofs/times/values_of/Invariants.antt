use Rattle.mesh_wire.proofs.Common.{◌≡◌, ℕ, List, ◌++◌, drop, map, fields, values_in}
use Rattle.mesh_wire.proofs.Values.{front}
use Rattle.mesh_wire.proofs.times.values_of.Given as goal
use denote.Ref.{Bor}

abbrev pub invariant-loop-i : goal.invariant-loop-i
invariant-loop-i l = front (λ (octets : Bor (List ℕ)). octets.now) l.found ++ values_in l.fn.kind (map fields (drop l.i l.tlvs)) ≡ values_in l.fn.kind (map fields l.tlvs)
