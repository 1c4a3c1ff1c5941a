use Rattle.mesh_packet.proofs.Common.{List, length, ap, arith, IfOk-weaker, Span, fields_of_packet, Spells}
use Rattle.mesh_packet.proofs.Existing.{form_exists}
use Rattle.mesh_packet.proofs.Spelled.{form_spelled}
use Rattle.mesh_packet.proofs.OneForm.{form_once}
use Rattle.mesh_packet.proofs.write.encode.Goals as goal

pub returns-clause-spelled : goal.returns-clause-spelled
returns-clause-spelled c = IfOk-weaker c.least_form.result _ (λ bytes. (spans : List Span) × Spells (fields_of_packet c.args.packet.now) spans bytes) (λ bytes h. form_spelled (fields_of_packet c.args.packet.now) bytes c.requires h.0) c.least_form.ensures.ok

pub returns-clause-too_long : goal.returns-clause-too_long
returns-clause-too_long c = λ e.
    let form = form_exists (fields_of_packet c.args.packet.now) c.requires in
    (form.0, form.1, omega (arith, c.least_form.ensures.too_long e form.0 form.1))

pub returns-clause-long : goal.returns-clause-long
returns-clause-long c = λ long.
    IfOk-weaker c.least_form.result _ (λ bytes. ⊥) (λ bytes h. absurd (omega (arith, h.1, long.2, ap length (form_once (fields_of_packet c.args.packet.now) bytes long.0 h.0 long.1)))) c.least_form.ensures.ok
