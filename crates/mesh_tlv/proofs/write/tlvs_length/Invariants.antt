use Rattle.mesh_tlv.proofs.Common.{◌≡◌, ◌≤◌, length, map, take, flat_map, least_addr_tlv}
use Rattle.mesh_tlv.proofs.write.tlvs_length.Given as goal

abbrev pub invariant-loop-tlv : goal.invariant-loop-tlv
invariant-loop-tlv g l = record {
  sum : l.total ≡ length (flat_map (least_addr_tlv l.count) (map g.T.Indexed.written (take l.tlv-index l.tlvs)));
  most : l.total ≤ 65535;
}
