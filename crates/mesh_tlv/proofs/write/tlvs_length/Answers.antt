use Rattle.mesh_tlv.proofs.Common.{◌≡◌, ◌∙◌, get_or, length, ap, sym, arith, AddrTlvFields, least_addr_tlv}
use Rattle.mesh_tlv.proofs.Lengths.{too_long}
use Rattle.mesh_tlv.proofs.write.tlvs_length.Goals as goal

pub returns-then-len-total : goal.returns-then-len-total
returns-then-len-total g c =
    let shown = c.indexed.ensures ∙ ap g.T.Indexed.written c.tlv-item.is in
    let is : c.addr_tlv_len-len.result ≡ length (least_addr_tlv c.args.count (g.T.Indexed.written (get_or c.args.tlvs.now c.loop-tlv.tlv-index c.tlv-item.result))) = c.addr_tlv_len-len.ensures ∙ ap (λ (tlv : AddrTlvFields). length (least_addr_tlv c.args.count tlv)) shown in
    sym (too_long g.T.Indexed.written (least_addr_tlv c.args.count) c.args.tlvs.now c.loop-tlv.tlv-index c.tlv-item.result c.loop-tlv.total c.addr_tlv_len-len.result c.loop-tlv-test.true c.loop-tlv.invariant.sum is (omega (arith, c.loop-tlv.invariant.most)))
