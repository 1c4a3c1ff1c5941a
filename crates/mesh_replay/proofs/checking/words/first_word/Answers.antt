use Rattle.mesh_replay.proofs.Common.{◌∙◌, arith}
use Rattle.mesh_replay.proofs.RelaysLemmas.Words.{word_before, word_alone}
use Rattle.mesh_replay.proofs.checking.words.first_word.Goals as goal

pub returns-in-Some-clause-read : goal.returns-in-Some-clause-read
returns-in-Some-clause-read c addr more is =
    let read = word_before c.args.text.now addr more c.in-Some.end is c.in-Some.ensures.0.high c.in-Some.ensures.1 (λ j less here. c.in-Some.ensures.0.before j (omega arith) less here) in
    (c.split_at.ensures.front ∙ read.0, c.split_at.ensures.back ∙ read.1)

pub returns-in-None-clause-read : goal.returns-in-None-clause-read
returns-in-None-clause-read c addr more is = word_alone c.args.text.now addr more is (λ j less here. c.in-None.ensures j (omega arith) less here)
