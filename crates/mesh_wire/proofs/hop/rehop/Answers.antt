use Rattle.mesh_wire.proofs.Hops.{can_hop, hop_spells, limit_after, count_after, others_after}
use Rattle.mesh_wire.proofs.hop.rehop.Goals as goal

pub hop-requires-clause-hop : goal.hop-requires-clause-hop
hop-requires-clause-hop c = can_hop c.requires.whole.0 c.args.message.now c.requires.whole.1 c.requires.whole.2

pub returns-clause-spelled : goal.returns-clause-spelled
returns-clause-spelled c = λ fields spells. rw c.hop.ensures (hop_spells fields c.args.message.now spells (can_hop c.requires.whole.0 c.args.message.now c.requires.whole.1 c.requires.whole.2).flagged)

pub returns-clause-limit : goal.returns-clause-limit
returns-clause-limit c = rw c.hop.ensures (limit_after c.args.message.now (can_hop c.requires.whole.0 c.args.message.now c.requires.whole.1 c.requires.whole.2))

pub returns-clause-count : goal.returns-clause-count
returns-clause-count c = rw c.hop.ensures (count_after c.args.message.now (can_hop c.requires.whole.0 c.args.message.now c.requires.whole.1 c.requires.whole.2))

pub returns-clause-others : goal.returns-clause-others
returns-clause-others c = λ place elsewhere. rw c.hop.ensures (others_after c.args.message.now place elsewhere)
