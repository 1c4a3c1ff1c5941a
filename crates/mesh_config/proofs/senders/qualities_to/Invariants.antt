use Rattle.mesh_config.proofs.Common.{◌≡◌, take, map, stated_lists, quality_pair, with_steps, qualities_to, stated_steps}
use Rattle.mesh_config.proofs.senders.qualities_to.Given as goal

abbrev pub invariant-loop-number : goal.invariant-loop-number
invariant-loop-number l = map quality_pair l.qualities ≡ qualities_to (stated_lists l.routers) (with_steps (take l.number l.arcs) (stated_steps l.stated)) l.router l.iface
