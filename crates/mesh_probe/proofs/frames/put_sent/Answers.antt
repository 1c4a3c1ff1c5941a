use Rattle.mesh_probe.proofs.Common.{◌++◌, ◌≤◌, length, sym, ◌∙◌, ap, take_all, Frame, sent_by}
use Rattle.mesh_probe.proofs.Queues.{one_put}
use Rattle.mesh_probe.proofs.frames.put_sent.Goals as goal
use Rattle.mesh_machine.proofs.Places.{none_past}

pub loop-i-preserved : goal.loop-i-preserved
loop-i-preserved c =
    let frame : Frame = record { iface = c.in-Some.iface; bytes = c.in-Some.octets.now } in
    rw (c.in_ok-push.ensures.items, c.in_ok-transmission.ensures)
    (one_put c.args.router c.loop-i.i c.args.sent.now frame c.args.frames.now.items c.loop-i.frames.items (sym c.in-Some.ensures) c.loop-i.invariant)

pub returns-in_default : goal.returns-in_default
returns-in_default c =
    let past : length c.args.sent.now ≤ c.loop-i.i = none_past c.args.sent.now c.loop-i.i (sym c.in_default.ensures) in
    c.loop-i.invariant ∙ ap (λ frames. c.args.frames.now.items ++ sent_by c.args.router frames) (take_all c.loop-i.i c.args.sent.now past)
