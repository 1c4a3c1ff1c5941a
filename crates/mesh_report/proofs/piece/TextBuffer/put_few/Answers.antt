use Rattle.mesh_report.proofs.Common.{common_steps, arith}
use Rattle.mesh_report.proofs.Decimals.{two_last, two_longer}
use Rattle.mesh_report.proofs.piece.TextBuffer.put_few.Goals as goal

pub put_small-requires-clause-room : goal.put_small-requires-clause-room
put_small-requires-clause-room c = omega (arith, c.requires.room, two_longer c.args.number c.if-number-gt99.true c.ranges.number.fits)

pub put_pair-requires-clause-room : goal.put_pair-requires-clause-room
put_pair-requires-clause-room c = omega (arith, c.requires.room, c.put_small.ensures.len, two_longer c.args.number c.if-number-gt99.true c.ranges.number.fits)

pub returns-then-number-gt99-clause-text : goal.returns-then-number-gt99-clause-text
returns-then-number-gt99-clause-text c = grind (arith, common_steps, two_last, c.put_pair.ensures, c.put_small.ensures.text)

pub returns-then-number-gt99-clause-len : goal.returns-then-number-gt99-clause-len
returns-then-number-gt99-clause-len c = grind (arith, common_steps, two_longer, c.put_pair.ensures, c.put_small.ensures.len)
