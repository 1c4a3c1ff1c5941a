use Rattle.mesh_packet.proofs.Common.{on_ok_weaker, fields_of_message, LeastBody, Wrote}
use Rattle.mesh_packet.proofs.TooLong.{body_tlvs_pass}
use Rattle.mesh_packet.proofs.Writing.{was_too_long, body_wrote}
use Rattle.mesh_packet.proofs.write.write_body.Goals as goal

pub returns-in_err-write_tlvs-clause-too_long : goal.returns-in_err-write_tlvs-clause-too_long
returns-in_err-write_tlvs-clause-too_long c = λ e.
    let long = c.write_tlvs.ensures.too_long.0 (was_too_long c.from_residual-in_err-write_tlvs.result c.write_tlvs.result c.in_err-write_tlvs.field-0.0 c.in_err-write_tlvs.was c.from_residual-in_err-write_tlvs.ensures.1 e) in
    body_tlvs_pass (fields_of_message c.args.message.now) (rw c.as_slice.ensures at long)

pub returns-clause-ok : goal.returns-clause-ok
returns-clause-ok c = on_ok_weaker {Q = Wrote (LeastBody (fields_of_message c.args.message.now)) c.args.out.now c.write_pairs.new.out} c.write_pairs.result
    (λ h. body_wrote (fields_of_message c.args.message.now) c.args.out.now c.put_head.new.out c.write_tlvs.new.out c.write_pairs.new.out c.in_ok-put_head.ensures (rw c.as_slice.ensures at c.in_ok-write_tlvs.ensures.ok) (rw c.as_slice-2.ensures at h)) c.write_pairs.ensures.ok
