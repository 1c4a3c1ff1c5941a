use Rattle.mesh_report.proofs.Common.{arith, common_steps, addr_tlv_line, numbered, valued, three_appended}
use Rattle.mesh_report.proofs.lines.AddrTlvListed.put_lines.Goals as goal

pub returns-clause-ok : goal.returns-clause-ok
unfolding addr_tlv_line
returns-clause-ok c = grind (arith, common_steps, numbered, valued, three_appended, c.put_kind.ensures.text, c.in_ok-make_room.ensures.ok, c.put_cover.ensures.text, c.in_ok-put_value.ensures.ok, c.put_text.ensures.text)
