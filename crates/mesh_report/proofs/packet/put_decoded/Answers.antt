use Rattle.mesh_report.proofs.Common.{on_ok_weaker, ◌≡◌, ◌++◌, List, ℕ, map, refl, flat_map-map, flat_map, fields, fields_of_packet, fields_of_message, Wrote, packet_line, tlv_line, IsMessagesText, three_appended}
use Rattle.mesh_report.proofs.packet.put_decoded.Goals as goal

pub returns-clause-ok : goal.returns-clause-ok
returns-clause-ok c = on_ok_weaker c.put_messages.result (λ wrote.
    let packet = c.args.decoded.now.packet in
    let old : List ℕ = c.args.out.now ++ c.args.room.now.line in
    let first : List ℕ = packet_line c.args.number (fields_of_packet packet) in
    let tlvs : List ℕ = flat_map tlv_line (map fields packet.tlvs) in
    let standing : List ℕ = c.put_each.new.out ++ c.put_each.new.line in
    let put_tlvs : standing ≡ (c.put_packet_line.new.out ++ c.put_packet_line.new.line) ++ tlvs = rw (← c.as_slice.ensures, flat_map-map tlv_line fields c.as_slice.result.now) c.in_ok-put_each.ensures.ok in
    let messages : Wrote (IsMessagesText (map fields_of_message packet.messages) c.args.decoded.now.spans) standing (c.put_messages.new.out ++ c.put_messages.new.room.line) = rw (← c.as_slice-2.ensures, ← c.as_slice-3.ensures) wrote in
    (first ++ tlvs ++ messages.0, three_appended old first tlvs messages.0 c.in_ok-put_packet_line.ensures.ok put_tlvs messages.1, (messages.0, messages.2, refl))) c.put_messages.ensures.ok
