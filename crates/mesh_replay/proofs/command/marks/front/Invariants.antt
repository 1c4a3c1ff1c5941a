use Rattle.mesh_replay.proofs.Common.{◌≡◌, length, IsMarkLine, word_of, lines_from, IsReaderOf}
use Rattle.mesh_replay.proofs.CommandLemmas.Rules.{Passed}
use Rattle.mesh_replay.proofs.command.marks.front.Given as goal

-- the lines that were taken are none of the kind
abbrev pub invariant-loop-mark : goal.invariant-loop-mark
invariant-loop-mark l = record {
  reading : IsReaderOf l.text l.reader;
  word : l.reader.text ≡ word_of l.mark;
  passed : Passed (IsMarkLine l.mark) l.text l.reader.at;
}

abbrev pub decreases-loop-mark : goal.decreases-loop-mark
decreases-loop-mark l = length (lines_from l.text l.reader.at)
