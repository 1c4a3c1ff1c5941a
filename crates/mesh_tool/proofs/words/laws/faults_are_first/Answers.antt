use Rattle.mesh_tool.proofs.WordsLemmas.FirstFault.{first_at_fault, refused_at_first}
use Rattle.mesh_tool.proofs.words.laws.faults_are_first.Goals as goal

pub returns : goal.returns
returns c = λ words place. (λ h. first_at_fault words place h, λ first. refused_at_first words place first)
