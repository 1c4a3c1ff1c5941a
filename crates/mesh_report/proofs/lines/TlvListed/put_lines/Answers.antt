use Rattle.mesh_report.proofs.Common.{arith, common_steps, tlv_line, numbered, valued}
use Rattle.mesh_report.proofs.lines.TlvListed.put_lines.Goals as goal

pub returns-clause-ok : goal.returns-clause-ok
unfolding tlv_line
returns-clause-ok c = grind (arith, common_steps, numbered, valued, c.put_kind.ensures.text, c.in_ok-make_room.ensures.ok, c.in_ok-put_value.ensures.ok, c.put_text.ensures.text)
