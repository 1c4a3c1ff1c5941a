use Rattle.mesh_tlv.proofs.Common.{ℕ, List, All, MatchResult-weaker, AddrTlvFields, addr_block_fields, FirstFaultAt, addr_tlv_at, block_at, SpellsAddrTlv, TlvFault, AddrTlvBlockFault, IsFit, given, given_so}
use Rattle.mesh_tlv.proofs.Fit.{all_fit}
use Rattle.mesh_tlv.proofs.Blocks.{BlockTook, block_takes, block_again, block_refuses}
use Rattle.mesh_tlv.proofs.Tlvs.{addr_tlv_reader}
use Rattle.mesh_tlv.proofs.read.read_addr_tlvs.Goals as goal

pub returns-clause-value : goal.returns-clause-value
returns-clause-value c =
    let frame = c.args.frame.now in
    (given addr_block_fields (BlockTook frame c.args.at c.args.end (SpellsAddrTlv c.args.count)) (FirstFaultAt (AddrTlvBlockFault c.args.count) frame c.args.at c.args.end) c.read_block.result _ c.read_block.ensures (block_takes (addr_tlv_at c.args.count) (SpellsAddrTlv c.args.count) (TlvFault 0 c.args.count) (addr_tlv_reader c.args.count c.requires.count) frame c.args.at c.args.end c.requires.at c.requires.end)).0

pub returns-clause-refused : goal.returns-clause-refused
returns-clause-refused c =
    let frame = c.args.frame.now in
    (given addr_block_fields (BlockTook frame c.args.at c.args.end (SpellsAddrTlv c.args.count)) (FirstFaultAt (AddrTlvBlockFault c.args.count) frame c.args.at c.args.end) c.read_block.result _ c.read_block.ensures (block_takes (addr_tlv_at c.args.count) (SpellsAddrTlv c.args.count) (TlvFault 0 c.args.count) (addr_tlv_reader c.args.count c.requires.count) frame c.args.at c.args.end c.requires.at c.requires.end)).1

pub returns-clause-only : goal.returns-clause-only
returns-clause-only c = λ tlvs bytes rest h e. given_so addr_block_fields c.read_block.result _ _ c.read_block.ensures (block_again (addr_tlv_at c.args.count) (SpellsAddrTlv c.args.count) (TlvFault 0 c.args.count) (addr_tlv_reader c.args.count c.requires.count) c.args.frame.now c.args.at c.args.end tlvs bytes rest c.requires.at c.requires.end h e)

pub returns-clause-first : goal.returns-clause-first
returns-clause-first c = λ refusal h. given_so addr_block_fields c.read_block.result _ _ c.read_block.ensures (block_refuses (addr_tlv_at c.args.count) (SpellsAddrTlv c.args.count) (TlvFault 0 c.args.count) (addr_tlv_reader c.args.count c.requires.count) c.args.frame.now c.args.at c.args.end refusal c.requires.at c.requires.end h)

pub returns-clause-fit : goal.returns-clause-fit
returns-clause-fit c =
    let frame = c.args.frame.now in
    let Spelled = BlockTook frame c.args.at c.args.end (SpellsAddrTlv c.args.count) in
    let Fit = λ (x : List AddrTlvFields × ℕ). All (IsFit c.args.count) x.0 in
    let Fault = FirstFaultAt (AddrTlvBlockFault c.args.count) frame c.args.at c.args.end in
    let reads = (block_takes (addr_tlv_at c.args.count) (SpellsAddrTlv c.args.count) (TlvFault 0 c.args.count) (addr_tlv_reader c.args.count c.requires.count) frame c.args.at c.args.end c.requires.at c.requires.end) in
    (given addr_block_fields Fit Fault c.read_block.result _ c.read_block.ensures (MatchResult-weaker (block_at (addr_tlv_at c.args.count) frame c.args.at c.args.end) {P = Spelled} {P' = Fit} {Q = Fault} {Q' = Fault} reads (λ x (h : Spelled x). all_fit c.args.count x.0 h.2.1 c.requires.count h.2.3) (λ e h. h))).0
