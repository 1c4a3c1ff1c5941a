use Rattle.mesh_tlv.proofs.Common.{map, inl, sym, on_ok_weaker, fields, least_tlv}
use Rattle.mesh_tlv.proofs.Lengths.{tlv_longer, block_longer, written_indexed}
use Rattle.mesh_tlv.proofs.Spelled.{tlv_block_spelled}
use Rattle.mesh_tlv.proofs.write.write_tlvs.Goals as goal

pub returns-clause-ok : goal.returns-clause-ok
returns-clause-ok c = rw (sym (written_indexed c.args.tlvs.now)) c.write_block.ensures.ok

pub returns-clause-spelled : goal.returns-clause-spelled
returns-clause-spelled c = on_ok_weaker c.write_block.result (λ h. tlv_block_spelled (map fields c.args.tlvs.now)) c.write_block.ensures.ok

pub returns-clause-too_long : goal.returns-clause-too_long
returns-clause-too_long c =
    let same = written_indexed c.args.tlvs.now in (
      λ e. inl (rw (sym same) (c.write_block.ensures.too_long e).0),
      λ h. c.write_block.ensures.long (rw same (block_longer least_tlv (λ tlv. tlv.value) tlv_longer (map fields c.args.tlvs.now) h)),
    )
