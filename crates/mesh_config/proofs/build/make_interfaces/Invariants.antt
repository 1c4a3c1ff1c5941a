use Rattle.mesh_config.proofs.Common.{◌≡◌, take, map, length, stated_lists, interface_fields, thresholds_of, threshold_pair, StatedInterface, stated_interface_fields, HaveSenders, with_steps, stated_steps, HaveQualities}
use Rattle.mesh_config.proofs.build.make_interfaces.Given as goal

abbrev pub invariant-loop-iface : goal.invariant-loop-iface
invariant-loop-iface l = record {
  interfaces : map interface_fields l.all ≡ map stated_interface_fields (take l.iface l.interfaces);
  thresholds : map thresholds_of l.all ≡ map (λ (d : StatedInterface). threshold_pair l.thresholds) (take l.iface l.interfaces);
  qualities : HaveQualities (stated_lists l.network.routers.now) (with_steps l.network.arcs.now (stated_steps l.network.stated_arcs.now)) l.router 0 l.all;
  senders : HaveSenders (stated_lists l.network.routers.now) l.network.arcs.now l.router 0 l.all;
  size : length l.all ≡ l.iface;
}
