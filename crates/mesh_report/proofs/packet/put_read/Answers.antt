use Rattle.mesh_report.proofs.Common.{on_ok_weaker, [], refl, sym, append-nil, refused_line}
use Rattle.mesh_report.proofs.Joined.{behind}
use Rattle.mesh_report.proofs.packet.put_read.Goals as goal

pub returns-then-recode-clause-ok : goal.returns-then-recode-clause-ok
returns-then-recode-clause-ok c = rw (c.if-recode.true, c.in-Read.is) c.put_recoded.ensures.ok

pub returns-else-recode-clause-ok : goal.returns-else-recode-clause-ok
returns-else-recode-clause-ok c = on_ok_weaker c.put_decoded.result (λ (text, put, is). (text, put, rw (c.if-recode.false, c.in-Read.is) (text, [], is, refl, sym (append-nil text)))) c.put_decoded.ensures.ok

pub returns-in-Refused-clause-ok : goal.returns-in-Refused-clause-ok
returns-in-Refused-clause-ok c =
    let line = refused_line c.args.number c.in-Refused.refusal in
    (line, behind c.args.out.now c.args.room.now.line line c.put_refused_line.ensures, rw c.in-Refused.is refl)
