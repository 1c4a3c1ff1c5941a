use Rattle.mesh_wire.proofs.Common.{◌≡◌, ◌++◌, drop, map, fields, contents_in}
use Rattle.mesh_wire.proofs.Values.{front}
use Rattle.mesh_wire.proofs.tc.contents_of.Given as goal

abbrev pub invariant-loop-i : goal.invariant-loop-i
invariant-loop-i l = front fields l.found ++ contents_in (map fields (drop l.i l.tlvs)) ≡ contents_in (map fields l.tlvs)
