use Rattle.mesh_links.proofs.Common.{sym, ◌∙◌}
use Rattle.mesh_links.proofs.hearing.standing.Goals as goal

pub returns-then-are_same-clause-some : goal.returns-then-are_same-clause-some
returns-then-are_same-clause-some g c = (c.in_ok-link.link.now, sym c.in_ok-link.ensures, sym c.as_slice.ensures ∙ c.are_same.ensures.0 c.if-are_same.true)
