use Rattle.mesh_report.proofs.Common.{on_ok_weaker, ◌≡◌, ◌++◌, List, ℕ, map, flat_map, flat_map-map, addr_fields, grows_on, fields_of_block, block_line, address_line, addr_tlv_line, block_text, three_appended}
use Rattle.mesh_report.proofs.packet.BlockListed.put_lines.Goals as goal

pub returns : goal.returns
unfolding block_text
returns c =
    let block = c.args.self.now in
    let old : List ℕ = c.args.out.now ++ c.args.line.now in
    let first : List ℕ = block_line (fields_of_block block) in
    let addrs : List ℕ = flat_map (address_line block.addrs.width) block.addrs.addrs in
    let tlvs : List ℕ = flat_map addr_tlv_line (map addr_fields block.tlvs) in
    let standing : List ℕ = c.put_addresses.new.out ++ c.put_addresses.new.line in
    let put_addresses : standing ≡ (c.put_block_line.new.out ++ c.put_block_line.new.line) ++ addrs = rw (← c.as_slice.ensures) c.in_ok-put_addresses.ensures.ok in
    record {
      ok = on_ok_weaker c.put_each.result (λ wrote. three_appended old first addrs tlvs c.in_ok-put_block_line.ensures.ok put_addresses (rw (← c.as_slice-2.ensures, flat_map-map addr_tlv_line addr_fields c.as_slice-2.result.now) wrote)) c.put_each.ensures.ok;
      kept = grows_on c.put_block_line.ensures.kept (grows_on c.put_addresses.ensures.kept c.put_each.ensures.kept);
    }
