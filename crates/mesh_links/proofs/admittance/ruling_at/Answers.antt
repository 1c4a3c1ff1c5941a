use Rattle.mesh_links.proofs.Common.{sym}
use Rattle.mesh_links.proofs.admittance.ruling_at.Goals as goal

pub returns-clause-some : goal.returns-clause-some
returns-clause-some g c = ((c.in_ok-key.link.now, c.in_ok-key.until), sym c.in_ok-key.ensures, c.in_ok-ruling.ensures.some)
