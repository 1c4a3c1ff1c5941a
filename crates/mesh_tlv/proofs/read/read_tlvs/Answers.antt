use Rattle.mesh_tlv.proofs.Common.{block_fields, FirstFaultAt, tlv_at, SpellsTlv, TlvFault, TlvBlockFault, given, given_so}
use Rattle.mesh_tlv.proofs.Blocks.{BlockTook, block_takes, block_again, block_refuses}
use Rattle.mesh_tlv.proofs.Tlvs.{tlv_reader}
use Rattle.mesh_tlv.proofs.read.read_tlvs.Goals as goal

pub returns-clause-value : goal.returns-clause-value
returns-clause-value c =
    let frame = c.args.frame.now in
    (given block_fields (BlockTook frame c.args.at c.args.end SpellsTlv) (FirstFaultAt TlvBlockFault frame c.args.at c.args.end) c.read_block.result _ c.read_block.ensures (block_takes tlv_at SpellsTlv (TlvFault 100 1) tlv_reader frame c.args.at c.args.end c.requires.at c.requires.end)).0

pub returns-clause-refused : goal.returns-clause-refused
returns-clause-refused c =
    let frame = c.args.frame.now in
    (given block_fields (BlockTook frame c.args.at c.args.end SpellsTlv) (FirstFaultAt TlvBlockFault frame c.args.at c.args.end) c.read_block.result _ c.read_block.ensures (block_takes tlv_at SpellsTlv (TlvFault 100 1) tlv_reader frame c.args.at c.args.end c.requires.at c.requires.end)).1

pub returns-clause-only : goal.returns-clause-only
returns-clause-only c = λ tlvs bytes rest h e. given_so block_fields c.read_block.result _ _ c.read_block.ensures (block_again tlv_at SpellsTlv (TlvFault 100 1) tlv_reader c.args.frame.now c.args.at c.args.end tlvs bytes rest c.requires.at c.requires.end h e)

pub returns-clause-first : goal.returns-clause-first
returns-clause-first c = λ refusal h. given_so block_fields c.read_block.result _ _ c.read_block.ensures (block_refuses tlv_at SpellsTlv (TlvFault 100 1) tlv_reader c.args.frame.now c.args.at c.args.end refusal c.requires.at c.requires.end h)
