use Rattle.mesh_relay.proofs.Decide.{Decides-distinct_ids}
use Rattle.mesh_relay.proofs.sets.has_distinct_ids.Goals as goal

pub returns : goal.returns
returns c = rw c.are_all_distinct.ensures (Decides-distinct_ids c.args.graph.now)
