use Rattle.mesh_hello.proofs.Common.{rules}
use Rattle.mesh_hello.proofs.ToldLemmas.Local.{local_row}
use Rattle.mesh_hello.proofs.told.receive.local_host.Goals as goal

pub returns-then-row-eq32-clause-some : goal.returns-then-row-eq32-clause-some
returns-then-row-eq32-clause-some c = local_row c.args.row.now (search rules) c.if-row-eq32.true
