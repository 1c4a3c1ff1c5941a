use Rattle.mesh_radio.proofs.Common.{map, emission_of, delivery_of, traffic_of, arc_ends}
use Rattle.mesh_radio.proofs.Happenings.{lands}
use Rattle.mesh_radio.proofs.Standing.{router_to, may_send, item_at}
use Rattle.mesh_radio.proofs.events.land.Goals as goal

pub sender_of-sender-requires : goal.sender_of-sender-requires
sender_of-sender-requires g c =
    let scenario = c.args.scene.now.scenario in
    let arc = c.index-as_slice-landed.result in
    (arc_ends scenario c.args.landed.arc arc (item_at scenario.arcs c.as_slice.result.now c.args.landed.arc arc c.as_slice.ensures c.requires.arc c.index-as_slice-landed.is)).0

pub hear-requires-clause-stands : goal.hear-requires-clause-stands
hear-requires-clause-stands g c =
    let scenario = c.args.scene.now.scenario in
    let arc = c.index-as_slice-landed.result in
    router_to scenario c.args.landed.moment (map g.R.DeferringRouter.state c.args.routers.now.items) arc c.requires.routers
    (arc_ends scenario c.args.landed.arc arc (item_at scenario.arcs c.as_slice.result.now c.args.landed.arc arc c.as_slice.ensures c.requires.arc c.index-as_slice-landed.is)).1

pub send_all-requires-clause-ways : goal.send_all-requires-clause-ways
send_all-requires-clause-ways g c = c.requires.ways

pub send_all-requires-clause-sendable : goal.send_all-requires-clause-sendable
send_all-requires-clause-sendable g c = may_send _ _ c.requires.routers c.in_ok-hear.ensures

pub send_all-requires-clause-seed : goal.send_all-requires-clause-seed
send_all-requires-clause-seed g c = c.requires.seed

pub send_all-requires-clause-early : goal.send_all-requires-clause-early
send_all-requires-clause-early g c = c.requires.early

pub returns-clause-lands : goal.returns-clause-lands
returns-clause-lands g c =
    let scenario = c.args.scene.now.scenario in
    let arc = c.index-as_slice-landed.result in
    let state = g.R.DeferringRouter.state in
    lands c.args.until scenario (map state c.args.routers.now.items) (map state c.hear.new.routers.items) (delivery_of c.args.landed) arc c.sender_of-sender.result c.hear.new.outbox (map emission_of c.in_ok-sent.sent.items) (traffic_of c.args.scene.now.traffic) (traffic_of c.send_all.new.traffic)
    (item_at scenario.arcs c.as_slice.result.now c.args.landed.arc arc c.as_slice.ensures c.requires.arc c.index-as_slice-landed.is) c.sender_of-sender.ensures c.in_ok-hear.ensures c.in_ok-sent.ensures.frames c.in_ok-sent.ensures.sends
