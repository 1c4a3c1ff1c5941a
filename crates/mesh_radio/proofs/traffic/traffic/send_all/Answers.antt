use Rattle.mesh_radio.proofs.Common.{◌≡◌, ◌≤◌, sym, ◌∙◌, subst, length, Some, slice_get, take_all, slice_get_within, get_or_from_slice_get, Frame, IsSendable, none_past}
use Rattle.mesh_radio.proofs.TrafficLemmas.Sending.{sent_more, one_sent, one_taken, all_sent}
use Rattle.mesh_radio.proofs.traffic.traffic.send_all.Goals as goal
use Rattle.mesh_radio.proofs.traffic.traffic.send_all.Goals.{else-loop-i-test, then-loop-i-test+in_default}

pub loop-i-preserved : goal.loop-i-preserved
loop-i-preserved c =
    let frame : Frame = record { iface = c.in-Some.iface; bytes = c.in-Some.frame.now } in
    record {
      goes = rw (sent_more _ _ _ c.in_ok-push.ensures.items) (one_sent _ _ _ _ _ _ _ _ c.in_ok-send.ensures.sends c.loop-i.invariant.goes);
      are = rw (sent_more _ _ _ c.in_ok-push.ensures.items) (one_taken c.args.outbox.now c.loop-i.i _ frame _ (sym c.in-Some.ensures) c.in_ok-send.ensures.frame c.loop-i.invariant.are);
      seeded = c.in_ok-send.ensures.seed ∙ c.loop-i.invariant.seeded;
    }

pub returns-clause-sends : goal.returns-clause-sends
returns-clause-sends c = all_sent _ _ _ _ _ _ c.loop-i.invariant.goes

pub returns-clause-frames : goal.returns-clause-frames
returns-clause-frames c =
    let whole : length c.args.outbox.now ≤ c.loop-i.i = elim c.loop-i-test.branch [
      | else-loop-i-test w ↦ rw (← c.len-i-end.ensures) w.loop-i-test.false
      | then-loop-i-test+in_default w ↦ none_past c.args.outbox.now c.loop-i.i (sym w.in_default.ensures)
    ] in
    c.loop-i.invariant.are ∙ take_all c.loop-i.i c.args.outbox.now whole

pub send-requires-clause-face : goal.send-requires-clause-face
send-requires-clause-face c =
    let frame : Frame = record { iface = c.in-Some.iface; bytes = c.in-Some.frame.now } in
    let at : slice_get c.args.outbox.now c.loop-i.i ≡ Some frame = sym c.in-Some.ensures in
    let settings = c.requires.sendable.0 in
    let sendable : IsSendable settings frame = subst (IsSendable settings) (get_or_from_slice_get c.args.outbox.now c.loop-i.i frame frame at) (c.requires.sendable.2 c.loop-i.i frame (slice_get_within c.args.outbox.now c.loop-i.i frame at)) in
    (settings, c.requires.sendable.1, sendable.iface)
