use Rattle.mesh_wire.proofs.Common.{length, ◌-◌, map, addr_fields, Adds, LaysFirst}
use Rattle.mesh_wire.proofs.runs.put_runs.Given as goal

abbrev pub invariant-loop-first : goal.invariant-loop-first
invariant-loop-first l = Adds (LaysFirst l.column l.lines l.first) (map addr_fields l.fn.tlvs) (map addr_fields l.tlvs)

abbrev pub decreases-loop-first : goal.decreases-loop-first
decreases-loop-first l = length l.lines - l.first
