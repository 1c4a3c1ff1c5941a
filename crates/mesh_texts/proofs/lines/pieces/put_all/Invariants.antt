use Rattle.mesh_texts.proofs.Common.{◌≡◌, ◌++◌, take, flat_map, piece_text}
use Rattle.mesh_texts.proofs.lines.pieces.put_all.Given as goal

abbrev pub invariant-loop-piece : goal.invariant-loop-piece
invariant-loop-piece l = record { wrote : l.out ≡ l.initial.out ++ flat_map piece_text (take l.piece-index l.pieces) }
