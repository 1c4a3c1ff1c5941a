use Rattle.mesh_texts.proofs.ReadBack.{ends_settled, prints_rows, prints_rows_by}
use Rattle.mesh_texts.proofs.laws.texts_read_back.Goals as goal

pub returns-clause-settled : goal.returns-clause-settled
returns-clause-settled c = ends_settled

pub returns-clause-rows : goal.returns-clause-rows
returns-clause-rows c = prints_rows

pub returns-clause-hops : goal.returns-clause-hops
returns-clause-hops c = prints_rows_by
