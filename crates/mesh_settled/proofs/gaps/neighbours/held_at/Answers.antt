use Rattle.mesh_settled.proofs.Common.{sym, ap, ◌∙◌, ◌≡◌, entry_of, seen, Neighbour}
use Rattle.mesh_settled.proofs.GapsLemmas.Leasts.{at_entry}
use Rattle.mesh_settled.proofs.gaps.neighbours.held_at.Goals as goal

pub returns-in-Some : goal.returns-in-Some
returns-in-Some g c =
    at_entry (seen g.R.RouterView.state c.args.site.now) (g.R.RouterView.state c.args.site.now.router.now).bases.neighbourhood.neighbours (λ o e k. k ≡ Neighbour o) c.args.place c.in-Some.addr.now (c.in-Some.field-0-1.now, c.in-Some.field-0-2) c.gap_at.result
    (sym c.neighbour.ensures ∙ ap entry_of c.in-Some.is) c.gap_at.ensures
