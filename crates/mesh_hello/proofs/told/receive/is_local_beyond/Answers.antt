use Rattle.mesh_hello.proofs.Common.{◌≢◌, Addr4}
use Rattle.mesh_hello.proofs.ToldLemmas.Local.{local_with, beyond}
use Rattle.mesh_hello.proofs.told.receive.is_local_beyond.Goals as goal

pub returns-in-Some : goal.returns-in-Some
returns-in-Some c = local_with (λ (a : Addr4). a ≢ c.args.first) c.args.row.now c.in-Some.addr _ c.in-Some.ensures.some (beyond c.in-Some.addr c.args.first _ c.ne.ensures)
