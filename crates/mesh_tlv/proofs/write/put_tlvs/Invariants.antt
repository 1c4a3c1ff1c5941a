use Rattle.mesh_tlv.proofs.Common.{◌≡◌, ◌++◌, map, take, flat_map, least_addr_tlv}
use Rattle.mesh_tlv.proofs.write.put_tlvs.Given as goal

abbrev pub invariant-loop-tlv : goal.invariant-loop-tlv
invariant-loop-tlv g l = record { wrote : l.out ≡ l.initial.out ++ flat_map (least_addr_tlv l.count) (map g.T.Indexed.written (take l.tlv-index l.tlvs)) }
