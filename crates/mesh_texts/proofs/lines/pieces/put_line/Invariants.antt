use Rattle.mesh_texts.proofs.Common.{◌≡◌, ◌++◌, drop, map, Grows, line_of, labelled_text}
use Rattle.mesh_texts.proofs.lines.pieces.put_line.Given as goal

abbrev pub invariant-loop-piece : goal.invariant-loop-piece
invariant-loop-piece l = record {
  kept : Grows l.fn.out l.out;
  wrote : l.out ++ line_of (map labelled_text (drop l.piece-index l.pieces)) ≡ l.fn.out ++ line_of (map labelled_text l.pieces);
}
