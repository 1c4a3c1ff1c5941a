use Rattle.mesh_tool.proofs.Common.{ℕ, List, subst, ◌∙◌, sink_use, TellsLine}
use Rattle.mesh_tool.specs.declared.jobs.status.Status.TheVariants as status
use Rattle.mesh_tool.proofs.JobsLemmas.Pieces.{refused_is}
use Rattle.mesh_tool.proofs.jobs.say.tell_refusal.Goals as goal

pub returns-clause-tells : goal.returns-clause-tells
returns-clause-tells g c =
    let says : List ℕ → Type 0 = λ line. TellsLine (sink_use g.E.Sink c.args.err.now c.tell_refused.new.err) line status.Refused c.tell_refused.result in
    subst says (refused_is c.args.number c.as_bytes.result.now c.name.result.now c.args.key.now (c.as_bytes.ensures.value ∙ c.format.ensures.text) c.name.ensures) c.tell_refused.ensures.tells
