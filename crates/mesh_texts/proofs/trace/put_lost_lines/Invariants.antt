use Rattle.mesh_texts.proofs.Common.{◌≡◌, ◌++◌, take, flat_map, lost_line}
use Rattle.mesh_texts.proofs.trace.put_lost_lines.Given as goal

abbrev pub invariant-loop-arc : goal.invariant-loop-arc
invariant-loop-arc l = record { wrote : l.out ≡ l.initial.out ++ flat_map (lost_line l.scenario l.moment) (take l.arc-index l.lost) }
