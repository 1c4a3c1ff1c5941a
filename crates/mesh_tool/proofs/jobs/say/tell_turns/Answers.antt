use Rattle.mesh_tool.proofs.Common.{ℕ, List, subst, ◌∙◌, sink_use, TellsLine}
use Rattle.mesh_tool.specs.declared.jobs.status.Status.TheVariants as status
use Rattle.mesh_tool.proofs.JobsLemmas.Pieces.{turns_is}
use Rattle.mesh_tool.proofs.jobs.say.tell_turns.Goals as goal

pub returns-clause-tells : goal.returns-clause-tells
returns-clause-tells g c =
    let says : List ℕ → Type 0 = λ line. TellsLine (sink_use g.E.Sink c.args.err.now c.tell_line.new.err) line status.Turns c.tell_line.result in
    subst says (turns_is c.args.turns c.args.moment c.args.end c.as_bytes.result.now c.as_bytes-2.result.now c.as_bytes-3.result.now
    (c.as_bytes.ensures.value ∙ c.format.ensures.text) (c.as_bytes-2.ensures.value ∙ c.format-2.ensures.text) (c.as_bytes-3.ensures.value ∙ c.format-3.ensures.text)) c.tell_line.ensures.tells
