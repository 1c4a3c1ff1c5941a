use Rattle.mesh_report.proofs.Common.{on_ok_weaker, codes, Err, inl, inr, refl, ap, ◌∙◌, recode_line}
use Rattle.mesh_report.proofs.packet.put_recode.Goals as goal

pub returns-in-Ok-clause-ok : goal.returns-in-Ok-clause-ok
returns-in-Ok-clause-ok c = on_ok_weaker c.put_recode_octets.result (λ h. (recode_line c.as_slice.result.now, h, inl (c.as_slice.result.now, rw (← c.as_slice.ensures) at c.in-Ok.ensures.least, rw (← c.as_slice.ensures) at c.in-Ok.ensures.fits, refl))) c.put_recode_octets.ensures.ok

pub returns-in-Err-TooLong-clause-ok : goal.returns-in-Err-TooLong-clause-ok
returns-in-Err-TooLong-clause-ok c = on_ok_weaker c.put_no_recode.result (λ h. (codes " recode none\n", h, inr (c.encode.ensures.too_long (c.in-Err-TooLong.is ∙ ap Err c.in-Err-TooLong.field-0-is), refl))) c.put_no_recode.ensures.ok
