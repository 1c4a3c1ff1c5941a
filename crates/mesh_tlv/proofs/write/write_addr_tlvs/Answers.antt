use Rattle.mesh_tlv.proofs.Common.{map, inl, on_ok_weaker, addr_fields, least_addr_tlv}
use Rattle.mesh_tlv.proofs.Lengths.{addr_tlv_longer, block_longer}
use Rattle.mesh_tlv.proofs.Spelled.{addr_tlv_block_spelled}
use Rattle.mesh_tlv.proofs.write.write_addr_tlvs.Goals as goal

pub returns-clause-spelled : goal.returns-clause-spelled
returns-clause-spelled c = on_ok_weaker c.write_block.result (λ h. addr_tlv_block_spelled c.args.count (map addr_fields c.args.tlvs.now) c.requires.fit) c.write_block.ensures.ok

pub returns-clause-too_long : goal.returns-clause-too_long
returns-clause-too_long c = (λ e. inl (c.write_block.ensures.too_long e).0, λ h. c.write_block.ensures.long (block_longer (least_addr_tlv c.args.count) (λ tlv. tlv.value) (addr_tlv_longer c.args.count) (map addr_fields c.args.tlvs.now) h))
