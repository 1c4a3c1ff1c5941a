use Rattle.mesh_nhdp.proofs.TcCounts.{tc_rows_few}
use Rattle.mesh_nhdp.proofs.laws.advertised_rows_are_few.Goals as goal

pub returns : goal.returns
returns c = λ s now rows sound are. tc_rows_few s now rows sound are
