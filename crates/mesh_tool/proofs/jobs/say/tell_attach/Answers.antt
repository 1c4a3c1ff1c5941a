use Rattle.mesh_tool.proofs.Common.{ℕ, List, subst, ◌∙◌, sink_use, TellsLine}
use Rattle.mesh_tool.specs.declared.jobs.status.Status.TheVariants as status
use Rattle.mesh_tool.proofs.JobsLemmas.Pieces.{attach_is}
use Rattle.mesh_tool.proofs.jobs.say.tell_attach.Goals as goal

pub returns-clause-tells : goal.returns-clause-tells
returns-clause-tells g c =
    let says : List ℕ → Type 0 = λ line. TellsLine (sink_use g.E.Sink c.args.err.now c.tell_line.new.err) line status.Attach c.tell_line.result in
    subst says (attach_is c.args.interface c.as_bytes.result.now (c.as_bytes.ensures.value ∙ c.format.ensures.text)) c.tell_line.ensures.tells
