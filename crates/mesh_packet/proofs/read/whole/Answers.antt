use Rattle.mesh_packet.proofs.Common.{length, arith}
use Rattle.mesh_packet.proofs.Flagged.{behind}
use Rattle.mesh_packet.proofs.read.whole.Goals as goal

pub header_tlvs-requires : goal.header_tlvs-requires
header_tlvs-requires c =
    record { at = (behind 0 (length c.args.frame.now) 2 c.in_ok-flags.at _ c.read_short-sequence.result c.if_flagged.result _ _ c.if_flagged.ensures c.in_ok-sequence.was c.read_short-sequence.ensures.after (c.in_ok-flags.ensures.after.0, omega arith)).0 }
