use Rattle.mesh_packet.proofs.Common.{fields_of_block}
use Rattle.mesh_packet.proofs.TooLong.{pair_passes}
use Rattle.mesh_packet.proofs.Writing.{was_too_long, pair_wrote}
use Rattle.mesh_packet.proofs.write.write_pair.Goals as goal

pub returns-in_err-write_addr_tlvs-clause-too_long : goal.returns-in_err-write_addr_tlvs-clause-too_long
returns-in_err-write_addr_tlvs-clause-too_long c = λ e.
    let long = c.write_addr_tlvs.ensures.too_long.0 (was_too_long c.from_residual-in_err-write_addr_tlvs.result c.write_addr_tlvs.result c.in_err-write_addr_tlvs.field-0.0 c.in_err-write_addr_tlvs.was c.from_residual-in_err-write_addr_tlvs.ensures.1 e) in
    pair_passes (fields_of_block c.args.block.now) (rw (c.len.ensures, c.as_slice.ensures) at long)

pub returns-clause-ok : goal.returns-clause-ok
returns-clause-ok c = pair_wrote (fields_of_block c.args.block.now) c.args.out.now c.write_least.new.out c.write_addr_tlvs.new.out c.in_ok-write_least.ensures.least (rw (c.len.ensures, c.as_slice.ensures) at c.in_ok-write_addr_tlvs.ensures.ok)
