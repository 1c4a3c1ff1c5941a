use Rattle.mesh_packet.proofs.Common.{length, fields_of_message}
use Rattle.mesh_packet.proofs.TooLong.{message_passes_by_length}
use Rattle.mesh_packet.proofs.Writing.{body_alone}
use Rattle.mesh_packet.proofs.write.write_message.Goals as goal

pub returns-clause-too_long : goal.returns-clause-too_long
returns-clause-too_long c = λ e. message_passes_by_length (fields_of_message c.args.message.now) (length c.args.out.now) c.write_body.new.out (body_alone (fields_of_message c.args.message.now) c.clear.new.self c.write_body.new.out c.clear.ensures c.in_ok-write_body.ensures.ok) (c.put_message.ensures.too_long e)
