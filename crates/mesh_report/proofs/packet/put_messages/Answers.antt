use Rattle.mesh_report.proofs.Common.{◌≡◌, ℕ, ◌+◌, ◌<◌, List, [], ◌++◌, length, map, drop, get_or, ap, ◌∙◌, arith, append_assoc, length-drop, append-nil, length-map, grows_on, MessageFields, fields_of_message, Span, IsMessageText, IsMessagesText}
use Rattle.mesh_report.proofs.Messages.{none_left, next_first}
use Rattle.mesh_report.proofs.packet.put_messages.Goals as goal

pub loop-at-preserved : goal.loop-at-preserved
loop-at-preserved c =
    let messages = c.args.messages.now in
    let spans = c.args.spans.now in
    let at : ℕ = c.loop-at.at in
    let in_messages : at < length messages = omega arith in
    let in_spans : at < length spans = omega arith in
    let none : Span = record { start = 0; len = 0 } in
    let message = c.index-messages-at.result in
    let text = c.in_ok-put_message.ensures.ok in
    let is : IsMessageText (get_or spans at none).len (fields_of_message (get_or messages at message)) text.0 = rw (← c.index-messages-at.is) text.2 in
    let next : (rest : List ℕ) → IsMessagesText (map fields_of_message (drop (at + 1) messages)) (drop (at + 1) spans) rest → IsMessagesText (map fields_of_message (drop at messages)) (drop at spans) (text.0 ++ rest)
    = λ rest h. next_first fields_of_message messages spans at message none text.0 rest in_messages in_spans is h in
    let joined : (rest : List ℕ) → (c.put_message.new.out ++ c.put_message.new.room.line) ++ rest ≡ (c.loop-at.out ++ c.loop-at.room.line) ++ (text.0 ++ rest)
    = λ rest. ap (λ (l : List ℕ). l ++ rest) text.1 ∙ append_assoc (c.loop-at.out ++ c.loop-at.room.line) text.0 rest in
    record {
      kept = grows_on c.loop-at.invariant.kept c.in_ok-put_message.ensures.kept;
      text = λ rest h. rw (joined rest) (c.loop-at.invariant.text (text.0 ++ rest) (next rest h));
    }

pub returns-clause-ok : goal.returns-clause-ok
returns-clause-ok c =
    let messages = c.args.messages.now in
    let spans = c.args.spans.now in
    let at : ℕ = c.loop-at.at in
    let left : List MessageFields = map fields_of_message (drop at messages) in
    let none : length left ≡ 0 = omega (arith, length-map (drop at messages) fields_of_message, length-drop at messages) in
    let nowhere : length (drop at spans) ≡ 0 = omega (arith, length-drop at spans) in
    rw append-nil at (c.loop-at.invariant.text [] (none_left left (drop at spans) none nowhere))
