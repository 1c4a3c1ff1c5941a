use Rattle.mesh_packet.proofs.Common.{arith}
use Rattle.mesh_packet.proofs.Flagged.{behind}
use Rattle.mesh_packet.proofs.read.head.Goals as goal

pub read_short-sequence-requires-clause-at : goal.read_short-sequence-requires-clause-at
read_short-sequence-requires-clause-at c =
    (behind c.args.at c.args.end 1 c.in_ok-limit.at _ c.read_octet-count.result c.if_flagged-3.result _ _ c.if_flagged-3.ensures c.in_ok-count.was c.read_octet-count.ensures.after
    (behind c.args.at c.args.end 1 c.in_ok-originator.at _ c.read_octet-limit.result c.if_flagged-2.result _ _ c.if_flagged-2.ensures c.in_ok-limit.was c.read_octet-limit.ensures.after
    (behind c.args.at c.args.end c.width_of.result c.args.at _ c.address-originator.result c.if_flagged.result _ _ c.if_flagged.ensures c.in_ok-originator.was c.address-originator.ensures.after (c.requires.at, omega arith)))).0

pub returns-clause-after : goal.returns-clause-after
returns-clause-after c =
    behind c.args.at c.args.end 2 c.in_ok-count.at _ c.read_short-sequence.result c.if_flagged-4.result _ _ c.if_flagged-4.ensures c.in_ok-sequence.was c.read_short-sequence.ensures.after
    (behind c.args.at c.args.end 1 c.in_ok-limit.at _ c.read_octet-count.result c.if_flagged-3.result _ _ c.if_flagged-3.ensures c.in_ok-count.was c.read_octet-count.ensures.after
    (behind c.args.at c.args.end 1 c.in_ok-originator.at _ c.read_octet-limit.result c.if_flagged-2.result _ _ c.if_flagged-2.ensures c.in_ok-limit.was c.read_octet-limit.ensures.after
    (behind c.args.at c.args.end c.width_of.result c.args.at _ c.address-originator.result c.if_flagged.result _ _ c.if_flagged.ensures c.in_ok-originator.was c.address-originator.ensures.after (c.requires.at, omega arith))))
