use Rattle.mesh_packet.proofs.Common.{arith, IfOk-weaker, given, given_so, fields_of_packet, fields_of_decoded, IsEncodable, ArePlaced}
use Rattle.mesh_packet.proofs.Encodable.{packet_encodable}
use Rattle.mesh_packet.proofs.Packets.{IsFault, IsSpelled, packet_takes, packet_again, packet_fault}
use Rattle.mesh_packet.proofs.Placed.{spells_placed}
use Rattle.mesh_packet.proofs.read.decode.Goals as goal

pub returns-clause-placed : goal.returns-clause-placed
returns-clause-placed c =
    IfOk-weaker c.whole.result _ (λ decoded. ArePlaced (fields_of_packet decoded.packet).messages decoded.spans c.args.frame.now)
    (λ decoded h. spells_placed (fields_of_packet decoded.packet) decoded.spans c.args.frame.now h)
    (given fields_of_decoded (IsSpelled c.args.frame.now) (IsFault c.args.frame.now) c.whole.result _ c.whole.ensures (packet_takes c.args.frame.now)).0

pub returns-clause-value : goal.returns-clause-value
returns-clause-value c = (given fields_of_decoded (IsSpelled c.args.frame.now) (IsFault c.args.frame.now) c.whole.result _ c.whole.ensures (packet_takes c.args.frame.now)).0

pub returns-clause-refused : goal.returns-clause-refused
returns-clause-refused c = (given fields_of_decoded (IsSpelled c.args.frame.now) (IsFault c.args.frame.now) c.whole.result _ c.whole.ensures (packet_takes c.args.frame.now)).1

pub returns-clause-only : goal.returns-clause-only
returns-clause-only c = λ packet spans h. given_so fields_of_decoded c.whole.result _ _ c.whole.ensures (packet_again c.args.frame.now packet spans h)

pub returns-clause-first : goal.returns-clause-first
returns-clause-first c = λ place reason h. given_so fields_of_decoded c.whole.result _ _ c.whole.ensures (packet_fault c.args.frame.now place reason h)

pub returns-clause-encodable : goal.returns-clause-encodable
returns-clause-encodable c =
    IfOk-weaker c.whole.result _ (λ decoded. IsEncodable (fields_of_packet decoded.packet))
    (λ decoded h. packet_encodable c.args.frame.now (fields_of_packet decoded.packet) decoded.spans (λ i. omega (arith, c.type_inv.frame i)) h)
    (given fields_of_decoded (IsSpelled c.args.frame.now) (IsFault c.args.frame.now) c.whole.result _ c.whole.ensures (packet_takes c.args.frame.now)).0
