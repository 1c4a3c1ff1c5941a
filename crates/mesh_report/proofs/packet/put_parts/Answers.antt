use Rattle.mesh_report.proofs.Common.{on_ok_weaker, ◌≡◌, ◌++◌, List, ℕ, map, flat_map-map, flat_map, fields, grows_on, fields_of_message, fields_of_block, message_line, tlv_line, block_text, message_text, three_appended}
use Rattle.mesh_report.proofs.packet.put_parts.Goals as goal

pub returns : goal.returns
unfolding message_text
returns c =
    let message = c.args.message.now in
    let old : List ℕ = c.args.out.now ++ c.args.line.now in
    let first : List ℕ = message_line c.args.size (fields_of_message message) in
    let tlvs : List ℕ = flat_map tlv_line (map fields message.tlvs) in
    let blocks : List ℕ = flat_map block_text (map fields_of_block message.blocks) in
    let standing : List ℕ = c.put_each.new.out ++ c.put_each.new.line in
    let put_tlvs : standing ≡ (c.put_message_line.new.out ++ c.put_message_line.new.line) ++ tlvs = rw (← c.as_slice.ensures, flat_map-map tlv_line fields c.as_slice.result.now) c.in_ok-put_each.ensures.ok in
    record {
      ok = on_ok_weaker c.put_each-2.result (λ wrote. three_appended old first tlvs blocks c.in_ok-put_message_line.ensures.ok put_tlvs (rw (← c.as_slice-2.ensures, flat_map-map block_text fields_of_block c.as_slice-2.result.now) wrote)) c.put_each-2.ensures.ok;
      kept = grows_on c.put_message_line.ensures.kept (grows_on c.put_each.ensures.kept c.put_each-2.ensures.kept);
    }
