use Rattle.mesh_report.proofs.Common.{◌≡◌, length, map, sym, ◌∙◌, length-map, fields, fields_of_message, packet_line, three_appended}
use Rattle.mesh_report.proofs.lines.put_packet_end.Goals as goal

pub returns : goal.returns
unfolding packet_line
returns c =
    let packet = c.args.packet.now in
    let tlvs : c.len.result ≡ length (map fields packet.tlvs) = c.len.ensures ∙ sym (length-map packet.tlvs fields) in
    let messages : c.len-2.result ≡ length (map fields_of_message packet.messages) = c.len-2.ensures ∙ sym (length-map packet.messages fields_of_message) in
    three_appended c.args.line.now _ _ _ c.put_numbered.ensures.text (rw c.wide_short.ensures at c.put_number_or_none.ensures.text) (rw (tlvs, messages) at c.put_counts.ensures.text)
