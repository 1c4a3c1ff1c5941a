use Rattle.mesh_replay.proofs.Common.{ℕ, List, ◌++◌, ap, ◌∙◌, IsAnswerText, answer_line}
use Rattle.mesh_io.proofs.Pieces.{one_put, one_cut}
use Rattle.mesh_replay.proofs.command.input.tell.Goals as goal

pub returns-in-Ok-write_all-clause-leaves : goal.returns-in-Ok-write_all-clause-leaves
returns-in-Ok-write_all-clause-leaves g c = λ input is.
    let line = c.as_slice.ensures ∙ c.in-Ok.ensures ∙ ap (λ (l : List ℕ). l ++ answer_line c.args.answer) c.new-text.ensures in
    one_put (IsAnswerText input) _ _ c.args.answer c.as_slice.result.now (is, line) c.in-Ok-write_all.ensures.whole

pub returns-clause-leaves : goal.returns-clause-leaves
returns-clause-leaves g c = λ input is.
    let line = c.as_slice.ensures ∙ c.in-Ok.ensures ∙ ap (λ (l : List ℕ). l ++ answer_line c.args.answer) c.new-text.ensures in
    let w = c.in-Err-write_all.ensures in
    one_cut (IsAnswerText input) _ _ _ _ c.args.answer c.as_slice.result.now (is, line) w.failed w.part
