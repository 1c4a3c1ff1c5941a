use Rattle.mesh_trace.proofs.Common.{map, fields_of_block}
use Rattle.mesh_trace.proofs.SpellingLemmas.Pairs.{Left}
use Rattle.mesh_trace.proofs.spelling.brief.are_brief.Given as goal

abbrev pub invariant-loop-i : goal.invariant-loop-i
invariant-loop-i l = Left l.width (map fields_of_block l.blocks) l.frame l.start l.end l.at l.i
