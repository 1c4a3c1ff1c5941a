use Rattle.mesh_tool.proofs.WordsLemmas.CommandLines.{asked_is_read, read_is_asked}
use Rattle.mesh_tool.proofs.words.laws.command_lines_are_read.Goals as goal

pub returns : goal.returns
returns c = λ words job. (λ h. read_is_asked words job h, λ asks. asked_is_read words job asks)
