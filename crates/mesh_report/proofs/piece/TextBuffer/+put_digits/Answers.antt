use Rattle.mesh_report.proofs.Common.{common_steps, arith}
use Rattle.mesh_report.proofs.Decimals.{two_last, two_longer}
use Rattle.mesh_report.proofs.piece.TextBuffer.+put_digits.Goals as goal

pub put_digits-requires : goal.put_digits-requires
put_digits-requires t c = (omega (arith, c.if-number-gt9999.true), omega (arith, two_longer c.args.number (omega (arith, c.if-number-gt9999.true)) c.ranges.number.fits))

pub put_pair-requires-clause-room : goal.put_pair-requires-clause-room
put_pair-requires-clause-room t c = omega (arith, c.put_digits.ensures.len, two_longer c.args.number (omega (arith, c.if-number-gt9999.true)) c.ranges.number.fits)

pub returns-then-number-gt9999-clause-text : goal.returns-then-number-gt9999-clause-text
returns-then-number-gt9999-clause-text t c = grind (arith, common_steps, two_last, c.put_pair.ensures, c.put_digits.ensures.text)

pub returns-then-number-gt9999-clause-len : goal.returns-then-number-gt9999-clause-len
returns-then-number-gt9999-clause-len t c = grind (arith, common_steps, two_longer, c.put_pair.ensures, c.put_digits.ensures.len)
