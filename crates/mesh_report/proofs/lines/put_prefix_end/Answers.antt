use Rattle.mesh_report.proofs.Common.{arith, numbered}
use Rattle.mesh_report.proofs.Decimals.{two_digits}
use Rattle.mesh_report.proofs.lines.put_prefix_end.Goals as goal

pub returns-then-prefix-eq32 : goal.returns-then-prefix-eq32
unfolding numbered
returns-then-prefix-eq32 c = rw (c.if-prefix-eq32.true, two_digits 32 (omega arith) (omega arith)) c.put_text.ensures.text
