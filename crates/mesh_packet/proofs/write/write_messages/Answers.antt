use Rattle.mesh_packet.proofs.Common.{all_read, fields_of_message, IsEncodableMessage, LeastMessage}
use Rattle.mesh_packet.proofs.Items.{wrote_next, items_pass}
use Rattle.mesh_packet.proofs.OneForm.{message_once}
use Rattle.mesh_packet.proofs.Writing.{handed_on}
use Rattle.mesh_packet.proofs.write.write_messages.Goals as goal

pub write_message-requires-clause-encodable : goal.write_message-requires-clause-encodable
write_message-requires-clause-encodable c = all_read fields_of_message IsEncodableMessage c.args.messages.now c.loop-message.message-index c.message-item.result c.requires.encodable c.loop-message-test.true c.message-item.is

pub returns-in_err-write_message-clause-too_long : goal.returns-in_err-write_message-clause-too_long
returns-in_err-write_message-clause-too_long c = λ e.
    items_pass fields_of_message LeastMessage message_once c.args.messages.now c.loop-message.message-index c.message-item.result c.args.out.now c.loop-message.out c.loop-message-test.true c.message-item.is c.loop-message.invariant.wrote (c.write_message.ensures.too_long (handed_on c.from_residual.result c.write_message.result c.in_err-write_message.field-0.0 c.in_err-write_message.was c.from_residual.ensures.1 e))

pub loop-message-preserved : goal.loop-message-preserved
loop-message-preserved c = record {
  wrote = wrote_next fields_of_message LeastMessage c.args.messages.now c.loop-message.message-index c.message-item.result c.args.out.now c.loop-message.out c.write_message.new.out c.loop-message-test.true c.message-item.is c.loop-message.invariant.wrote c.in_ok-write_message.ensures.ok.0;
  room = c.in_ok-write_message.ensures.ok.1;
}
