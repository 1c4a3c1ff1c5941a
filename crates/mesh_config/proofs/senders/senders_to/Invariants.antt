use Rattle.mesh_config.proofs.Common.{◌≡◌, ◌≤◌, take, map, length, stated_lists, senders_to, sender_pair}
use Rattle.mesh_config.proofs.senders.senders_to.Given as goal

abbrev pub invariant-loop-arc : goal.invariant-loop-arc
invariant-loop-arc l = record {
  exact : map sender_pair l.senders ≡ senders_to (stated_lists l.routers) (take l.arc-index l.arcs) l.router l.iface;
  few : length l.senders ≤ l.arc-index;
}
