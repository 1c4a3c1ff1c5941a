use Rattle.mesh_config.proofs.RunLaws.{neighbours_apart, neighbours_same}
use Rattle.mesh_config.proofs.setup.run_interface.Goals as goal

pub interface_from-requires-clause-distinct : goal.interface_from-requires-clause-distinct
interface_from-requires-clause-distinct c = rw (c.in_ok-senders.ensures.metrics, c.as_slice.ensures) (neighbours_apart c.args.costs.now.neighbours c.requires)

pub interface_from-requires-clause-same : goal.interface_from-requires-clause-same
interface_from-requires-clause-same c = rw (c.in_ok-senders.ensures.metrics, c.in_ok-senders.ensures.qualities, c.as_slice.ensures) (neighbours_same c.args.costs.now.neighbours)
