use Rattle.mesh_replay.proofs.Common.{answer_line}
use Rattle.mesh_replay.proofs.command.answer.put_answer.Goals as goal

pub returns-in-Yes : goal.returns-in-Yes
unfolding answer_line
returns-in-Yes c = rw c.in-Yes.is c.put_line.ensures

pub returns-in-No : goal.returns-in-No
unfolding answer_line
returns-in-No c = rw c.in-No.is c.put_line-in-No.ensures
