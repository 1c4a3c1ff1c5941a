use Rattle.mesh_trace.proofs.Common.{length, arith}
use Rattle.mesh_trace.proofs.SpellingLemmas.Spells.{given_place, given_no_refusal, strictly}
use Rattle.mesh_trace.proofs.spelling.brief.behind_brief.Goals as goal

pub returns-in-Ok-clause-wordy : goal.returns-in-Ok-clause-wordy
returns-in-Ok-clause-wordy c text rest spells same none =
    let (other, is, long) = c.in_ok-least_len-in-Ok.ensures.some in
    let place = given_place _ _ _ _ (c.in-Ok.ensures.only c.args.block.now.addrs text rest spells same) in
    let least = c.in_ok-least_len-in-Ok.ensures.least text spells in
    let less = strictly (length other) (length text) (omega (arith, long, least)) (λ e. c.if-branch.false (omega (arith, place, e, long))) in
    (other, is, less)

pub returns-in-Err-Refused-clause-wordy : goal.returns-in-Err-Refused-clause-wordy
returns-in-Err-Refused-clause-wordy c text rest spells same none =
    absurd (given_no_refusal _ _ _ c.in-Err-Refused.field-0-is (c.in-Err-Refused.ensures.only c.args.block.now.addrs text rest spells same))
