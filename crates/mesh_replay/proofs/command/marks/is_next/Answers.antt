use Rattle.mesh_replay.proofs.CommandLemmas.Rules.{not_next}
use Rattle.mesh_replay.proofs.command.marks.is_next.Goals as goal

pub returns-in-None : goal.returns-in-None
returns-in-None c = not_next c.args.mark c.args.text.now c.args.reader.now c.requires.word c.in-None.ensures
