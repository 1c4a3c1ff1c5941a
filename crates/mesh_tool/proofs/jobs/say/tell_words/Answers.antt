use Rattle.mesh_tool.proofs.Common.{ℕ, List, ◌++◌, codes, subst, sink_use, TellsLine}
use Rattle.mesh_tool.specs.declared.jobs.status.Status.TheVariants as status
use Rattle.mesh_tool.proofs.jobs.say.tell_words.Goals as goal

pub returns-clause-tells : goal.returns-clause-tells
returns-clause-tells g c =
    let says : List ℕ → Type 0 = λ line. TellsLine (sink_use g.E.Sink c.args.err.now c.tell_line.new.err) line status.Words c.tell_line.result in
    subst (λ (word : List ℕ). says (codes "mesh: words " ++ (word ++ codes "\n"))) c.faulty_word.ensures c.tell_line.ensures.tells
