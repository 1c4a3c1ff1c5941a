use Rattle.mesh_packet.proofs.Common.{map, arith, err_from_is_err_and, map_push, eq-eqb, fields_of_message}
use Rattle.mesh_packet.proofs.MessageRun.{one_more, all_turns, at_the_end, one_fails}
use Rattle.mesh_packet.proofs.read.messages.Goals as goal
use Rattle.mesh_packet.proofs.read.messages.Goals.{else-loop-test, then-loop-test+then-place-end}

pub returns-in_err-message : goal.returns-in_err-message
returns-in_err-message c =
    let p = err_from_is_err_and c.from_residual.result c.from_residual.ensures.1 in
    rw (p.1, p.2) (one_fails c.args.frame.now c.args.at c.args.end c.loop.counter (map fields_of_message c.loop.messages) c.loop.spans c.loop.place c.loop.invariant.so_far c.loop-test.true c.if-place-end.false c.in_err-message.field-0.0 c.in_err-message.ensures.exact)

pub loop-preserved : goal.loop-preserved
loop-preserved c =
    let m = c.in_ok-message.message in
    record {
      so_far = rw (c.in_ok-push.ensures.ok, c.in_ok-push-2.ensures.ok, map_push fields_of_message c.loop.messages m) (one_more c.args.frame.now c.args.at c.args.end c.loop.counter (map fields_of_message c.loop.messages) c.loop.spans c.loop.place c.loop.invariant.so_far c.loop-test.true c.if-place-end.false (fields_of_message m) c.in_ok-message.after c.in_ok-message.ensures.exact (omega (arith, c.in_ok-message.ensures.after)));
      within = omega (arith, c.in_ok-message.ensures.after);
    }

pub returns : goal.returns
returns c = elim c.loop-test.branch [
  | else-loop-test w ↦ all_turns c.args.frame.now c.args.at c.args.end c.loop.counter (map fields_of_message c.loop.messages) c.loop.spans c.loop.place c.loop.invariant.so_far w.loop-test.false
  | then-loop-test+then-place-end w ↦ at_the_end c.args.frame.now c.args.at c.args.end c.loop.counter (map fields_of_message c.loop.messages) c.loop.spans c.loop.place c.loop.invariant.so_far w.loop-test.true (eq-eqb _ _ w.if-place-end.true)
]
