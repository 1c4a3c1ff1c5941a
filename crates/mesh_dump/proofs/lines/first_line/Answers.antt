use Rattle.mesh_dump.proofs.Common.{eqb, eq-eqb, sym}
use Rattle.mesh_dump.proofs.FirstLine.{lines-feed, lines-no_feed}
use Rattle.mesh_dump.proofs.LineFeeds.{first_here}
use Rattle.mesh_dump.proofs.lines.first_line.Goals as goal

pub returns-then-text-eq10-clause-line : goal.returns-then-text-eq10-clause-line
returns-then-text-eq10-clause-line c = lines-feed c.args.text.now 0 (first_here (λ octet. eqb octet 10) c.args.text.now c.requires (eq-eqb _ _ c.if-text-eq10.true))

pub returns-in-Some-clause-line : goal.returns-in-Some-clause-line
returns-in-Some-clause-line c = rw c.without_return.ensures (lines-feed c.args.text.now c.in-Some.end (sym c.in-Some.ensures))

pub returns-in-None-clause-line : goal.returns-in-None-clause-line
returns-in-None-clause-line c = lines-no_feed c.args.text.now c.requires (sym c.in-None.ensures)
