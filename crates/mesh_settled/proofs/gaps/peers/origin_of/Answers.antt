use Rattle.mesh_settled.proofs.Common.{states}
use Rattle.mesh_settled.proofs.GapsLemmas.PeerLemmas.{sender_known}
use Rattle.mesh_settled.proofs.gaps.peers.origin_of.Goals as goal

pub returns-else-is_none-clause-origin : goal.returns-else-is_none-clause-origin
returns-else-is_none-clause-origin g c =
    let site = c.args.site.now in
    record {
      sender = c.sender_of-sender.ensures;
      stray = sender_known site.scenario.now site.graph.now (states g.R.RouterView.state site) site.moment site.x c.requires.network c.args.addr c.sender_of-sender.result c.is_none.result c.is_none.ensures c.if-is_none.false c.sender_of-sender.ensures;
    }
