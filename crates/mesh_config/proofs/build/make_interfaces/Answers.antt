use Rattle.mesh_config.proofs.Common.{◌≡◌, ◌+◌, length, arith, length_pushed, stated_lists, interface_fields, thresholds_of, threshold_pair, with_steps, stated_steps, HasSenders, HasQualities, StatedInterface, stated_interface_fields}
use Rattle.mesh_config.proofs.Builds.{each_more, maps_more}
use Rattle.mesh_config.proofs.build.make_interfaces.Goals as goal

pub loop-iface-preserved : goal.loop-iface-preserved
loop-iface-preserved c =
    let all = c.loop-iface.all in let i = c.loop-iface.iface in let x = c.in_ok-make_interface.field-0 in let made = c.in_ok-make_interface.ensures in
    let size : 0 + length all ≡ i = omega (arith, c.loop-iface.invariant.size) in
    rw c.in_ok-push.ensures.ok (record {
      interfaces = maps_more interface_fields stated_interface_fields all c.args.interfaces.now i x c.index-interfaces-iface.result c.index-interfaces-iface.is c.loop-iface-test.true c.loop-iface.invariant.interfaces made.fields;
      thresholds = maps_more thresholds_of (λ (d : StatedInterface). threshold_pair c.args.thresholds) all c.args.interfaces.now i x c.index-interfaces-iface.result c.index-interfaces-iface.is c.loop-iface-test.true c.loop-iface.invariant.thresholds made.thresholds;
      qualities = each_more (HasQualities (stated_lists c.args.network.now.routers.now) (with_steps c.args.network.now.arcs.now (stated_steps c.args.network.now.stated_arcs.now)) c.args.router) 0 i all x c.loop-iface.invariant.qualities size made.qualities;
      senders = each_more (HasSenders (stated_lists c.args.network.now.routers.now) c.args.network.now.arcs.now c.args.router) 0 i all x c.loop-iface.invariant.senders size (made.senders, made.own);
      size = length_pushed i all x c.loop-iface.invariant.size;
    })
