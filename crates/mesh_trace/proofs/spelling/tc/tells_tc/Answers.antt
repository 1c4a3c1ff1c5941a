use Rattle.mesh_trace.proofs.Common.{rules, IfOk-weaker, fields_of_message, SaysTc}
use Rattle.mesh_trace.proofs.spelling.tc.tells_tc.Goals as goal

pub returns : goal.returns
returns c =
    let says : SaysTc c.args.tc.now c.args.hop_limit c.args.validity.now (fields_of_message c.args.message.now) = c.is_message_of_tc.ensures.0 (search rules) in
    IfOk-weaker c.is_brief.result _ _ (λ yes brief text spelled e. (let iff = brief text spelled e in (λ y. (says, iff.0 y), λ h. iff.1 h.1))) c.is_brief.ensures
