use Rattle.mesh_tool.proofs.Common.{◌+◌, ◌++◌, drop, get_or, take, inr, refl, arith, front_first, front_second}
use Rattle.mesh_io.proofs.Steps.{appends_more}
use Rattle.mesh_tool.proofs.JobsLemmas.Pieces.{text, no_piece, text_more, text_around}
use Rattle.mesh_tool.proofs.jobs.say.tell_line.Goals as goal

pub loop-piece-preserved : goal.loop-piece-preserved
loop-piece-preserved g c =
    let i = c.loop-piece.invariant in
    let ps = c.args.pieces.now in
    let at = c.loop-piece.piece-index in
    record {
      so_far = rw (text_more ps at c.loop-piece-test.true) (appends_more _ _ _ (text (take at ps)) (get_or ps at no_piece).now i.so_far c.in-Ok.ensures.whole);
      later = omega (arith, i.later, c.in-Ok.ensures.later);
    }

pub returns-in-Err-clause-tells : goal.returns-in-Err-clause-tells
returns-in-Err-clause-tells g c =
    let i = c.loop-piece.invariant in
    let ps = c.args.pieces.now in
    let at = c.loop-piece.piece-index in
    let piece = get_or ps at no_piece in
    let behind = text (drop (at + 1) ps) in
    let (size, stands) = front_second _ _ _ (text (take at ps)) (piece.now ++ behind) i.so_far (front_first _ _ piece.now behind c.in-Err.ensures.part) in
    inr (refl, omega (arith, i.later, c.in-Err.ensures.failed), size, rw (← text_around ps at c.loop-piece-test.true) stands)
