use Rattle.mesh_hello.proofs.SayingLemmas.OneRow.{lost_by}
use Rattle.mesh_hello.proofs.saying.rows.is_lost.Goals as goal

pub returns : goal.returns
returns g c = lost_by (g.T.Table.content c.args.losts.now) c.args.addr c.get.result _ c.requires c.get.ensures c.is_some.ensures
