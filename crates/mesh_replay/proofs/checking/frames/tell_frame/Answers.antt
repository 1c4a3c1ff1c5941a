use Rattle.mesh_replay.proofs.Common.{◌≡◌, ℕ, List, rules, subst, if_ok_weaker, Frame, TakesText, sent_text}
use Rattle.mesh_replay.proofs.FramesLemmas.Items.{sent_told, sent_not}
use Rattle.mesh_replay.proofs.checking.frames.tell_frame.Goals as goal

pub returns-then-not-branch : goal.returns-then-not-branch
returns-then-not-branch c =
    let octets : c.as_slice.result.now ≡ c.args.frame.now.value = search rules in
    let event = c.args.event.now in
    let frame : Frame = record { iface = c.args.iface; bytes = c.args.frame.now.value } in
    sent_not {frame = frame} c.requires.progress
    (subst (λ (l : List ℕ). TakesText c.args.case.now.trace.now c.args.progress.now.reader c.take_due.new.reader (sent_text event.settings.now event.moment c.args.iface l) c.in_ok-take_due.field-0) octets c.in_ok-take_due.ensures)
    c.if-not-branch.true

pub returns : goal.returns
returns c =
    let octets : c.as_slice.result.now ≡ c.args.frame.now.value = search rules in
    let event = c.args.event.now in
    let frame : Frame = record { iface = c.args.iface; bytes = c.args.frame.now.value } in
    if_ok_weaker c.send_out.result
    (λ fits out. sent_told {frame = frame}
    (subst (λ (l : List ℕ). TakesText c.args.case.now.trace.now c.args.progress.now.reader c.take_due.new.reader (sent_text event.settings.now event.moment c.args.iface l) c.in_ok-take_due.field-0) octets c.in_ok-take_due.ensures)
    c.if-not-branch.false out) c.send_out.ensures
