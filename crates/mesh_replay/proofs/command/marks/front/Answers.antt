use Rattle.mesh_replay.proofs.Common.{◌∙◌, IsMarkLine}
use Rattle.mesh_replay.proofs.CommandLemmas.Rules.{pass_line}
use Rattle.mesh_replay.proofs.command.marks.front.Goals as goal

pub loop-mark-preserved : goal.loop-mark-preserved
loop-mark-preserved c =
    let i = c.loop-mark.invariant in
    let (line, took) = c.take.ensures.took in
    record {
      reading = c.take.ensures.reading;
      word = took.text ∙ i.word;
      passed = pass_line (IsMarkLine c.args.mark) c.args.text.now line c.loop-mark.reader.at c.take.new.self.at i.passed took.lines
          (λ kind. c.is_next.ensures.other c.if-is_next.false line _ took.lines kind);
    }
