use Rattle.mesh_hello.proofs.Common.{Contains}
use Rattle.mesh_hello.proofs.ToldLemmas.Local.{local_with, local_without}
use Rattle.mesh_hello.proofs.told.receive.is_local_of.Goals as goal

pub returns-in-Some : goal.returns-in-Some
returns-in-Some c = local_with (Contains c.args.own.now) c.args.row.now c.in-Some.addr _ c.in-Some.ensures.some c.contains.ensures

pub returns-in-None : goal.returns-in-None
returns-in-None c = local_without (Contains c.args.own.now) c.args.row.now c.in-None.ensures.none
