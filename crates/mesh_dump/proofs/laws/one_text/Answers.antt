use Rattle.mesh_dump.proofs.OneText.{always_reads, reads_once, one_text}
use Rattle.mesh_dump.proofs.laws.one_text.Goals as goal

pub returns-clause-always : goal.returns-clause-always
returns-clause-always c = λ line. always_reads line

pub returns-clause-line : goal.returns-clause-line
returns-clause-line c = λ line a b here there. reads_once line a b here there

pub returns-clause-text : goal.returns-clause-text
returns-clause-text c = λ input recode m n a b here there. one_text input recode m n a b here there
