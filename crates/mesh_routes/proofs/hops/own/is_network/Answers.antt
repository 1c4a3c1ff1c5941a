use Rattle.mesh_routes.proofs.Common.{yes, item_in}
use Rattle.mesh_routes.proofs.hops.own.is_network.Goals as goal

pub returns-then-is_net : goal.returns-then-is_net
returns-then-is_net c = yes (c.attached-item.result, item_in c.args.attached.now c.loop-attached.attached-index c.attached-item.result c.attached-item.is c.loop-attached-test.true, c.is_net.ensures.0 c.if-is_net.true)
