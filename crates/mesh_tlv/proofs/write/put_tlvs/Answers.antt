use Rattle.mesh_tlv.proofs.Common.{◌≤◌, ◌∙◌, length, sym, ap, subst, AddrTlvFields, least_addr_tlv}
use Rattle.mesh_tlv.proofs.Lengths.{item_within}
use Rattle.mesh_tlv.proofs.write.put_tlvs.Goals as goal

pub put_addr_tlv-requires-clause-len : goal.put_addr_tlv-requires-clause-len
put_addr_tlv-requires-clause-len g c =
    let shown = c.indexed.ensures ∙ ap g.T.Indexed.written c.tlv-item.is in
    subst (λ (tlv : AddrTlvFields). length (least_addr_tlv c.args.count tlv) ≤ 65535) (sym shown) (item_within g.T.Indexed.written (least_addr_tlv c.args.count) c.args.tlvs.now c.loop-tlv.tlv-index c.tlv-item.result 65535 c.loop-tlv-test.true c.requires.len)
