use Rattle.mesh_config.proofs.Common.{stated_lists, stated_steps}
use Rattle.mesh_config.proofs.Apart.{senders_apart}
use Rattle.mesh_config.proofs.Qualities.{senders_same}
use Rattle.mesh_config.proofs.build.make_interface.Goals as goal

pub interface_from-requires-clause-distinct : goal.interface_from-requires-clause-distinct
interface_from-requires-clause-distinct c =
    senders_apart c.args.network.now.routers.now c.args.network.now.arcs.now c.args.router c.args.iface c.in_ok-senders.senders c.requires.apart c.in_ok-senders.ensures.exact

pub interface_from-requires-clause-same : goal.interface_from-requires-clause-same
interface_from-requires-clause-same c =
    senders_same (stated_lists c.args.network.now.routers.now) c.args.network.now.arcs.now (stated_steps c.args.network.now.stated_arcs.now) c.args.router c.args.iface c.in_ok-senders.senders c.in_ok-qualities.qualities c.in_ok-senders.ensures.exact c.in_ok-qualities.ensures
