use Rattle.mesh_dump.proofs.Common.{inr, refl, IsNotHex}
use Rattle.mesh_dump.proofs.Listed.{puts}
use Rattle.mesh_dump.proofs.lines.put_line.Goals as goal

pub returns-in-Err-Refused : goal.returns-in-Err-Refused
returns-in-Err-Refused c =
    let refusal = c.in-Err-Refused.refusal in
    let not : IsNotHex c.args.line.now refusal = rw c.in-Err-Refused.field-0-is at c.in-Err-Refused.ensures.refused in
    let put = c.put_refused in
    puts put.result c.args.recode c.args.number c.args.line.now refusal c.args.desk.now.text put.new.desk.text (inr (refusal, not, refl)) put.ensures.text put.ensures.refused
