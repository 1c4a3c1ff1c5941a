use Rattle.mesh_tool.proofs.Common.{texts}
use Rattle.mesh_tool.proofs.WordsLemmas.Ranges.{read_in_range}
use Rattle.mesh_tool.proofs.words.words.read_words.Goals as goal

pub returns-clause-range : goal.returns-clause-range
returns-clause-range c = read_in_range (texts c.args.words.now) c.job_in.result c.job_in.ensures
