use Rattle.mesh_report.proofs.Common.{arith, common_steps, recode_line, three_appended}
use Rattle.mesh_report.proofs.packet.put_recode_octets.Goals as goal

pub returns-clause-ok : goal.returns-clause-ok
unfolding recode_line
returns-clause-ok c = grind (arith, common_steps, three_appended, c.put_text.ensures.text, c.in_ok-make_room.ensures.ok, c.in_ok-put_hex.ensures.ok, c.put_text-2.ensures.text)
