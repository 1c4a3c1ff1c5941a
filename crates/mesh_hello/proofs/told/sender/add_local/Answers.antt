use Rattle.mesh_hello.proofs.Common.{refl}
use Rattle.mesh_hello.proofs.ToldLemmas.Senders.{adds_local}
use Rattle.mesh_hello.proofs.told.sender.add_local.Goals as goal

pub returns-in_ok-push : goal.returns-in_ok-push
returns-in_ok-push c = adds_local c.args.addrs.now.items _ c.args.row.now c.args.local c.in_ok-push.ensures.items c.if-row-eq32.true (c.if-is_local.ensures.0 refl)
