use Rattle.mesh_data.proofs.Deciding.{longest_more, longest_at_end}
use Rattle.mesh_data.proofs.decisions.longest_of.Goals as goal

pub loop-network-preserved : goal.loop-network-preserved
loop-network-preserved c =
    longest_more c.args.attached.now c.loop-network.network-index c.args.addr c.loop-network.longest c.longer-longest.result c.network-item.result c.loop-network-test.true c.network-item.is
    c.longer-longest.ensures c.loop-network.invariant

pub returns : goal.returns
returns c = longest_at_end c.args.attached.now c.loop-network.network-index c.args.addr c.loop-network.longest c.loop-network-test.false c.loop-network.invariant
