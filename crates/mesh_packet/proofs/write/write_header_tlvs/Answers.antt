use Rattle.mesh_packet.proofs.TooLong.{header_tlvs_pass}
use Rattle.mesh_packet.proofs.Writing.{was_too_long}
use Rattle.mesh_packet.proofs.write.write_header_tlvs.Goals as goal

pub returns-in_err-write_tlvs-in_default-clause-too_long : goal.returns-in_err-write_tlvs-in_default-clause-too_long
returns-in_err-write_tlvs-in_default-clause-too_long c = λ e.
    header_tlvs_pass c.args.tlvs.now c.in_default.len_at_least (c.write_tlvs.ensures.too_long.0 (was_too_long c.from_residual.result c.write_tlvs.result c.in_err-write_tlvs-in_default.field-0.0 c.in_err-write_tlvs-in_default.was c.from_residual.ensures.1 e))
