use Rattle.mesh_settled.proofs.Common.{sym, ap, ◌∙◌, entry_of, IsGivenIn, seen}
use Rattle.mesh_settled.proofs.GapsLemmas.Leasts.{at_entry}
use Rattle.mesh_settled.proofs.gaps.two_hops.given_near.Goals as goal

pub returns-in-Some : goal.returns-in-Some
returns-in-Some g c =
    at_entry (seen g.R.RouterView.state c.args.site.now) (g.R.RouterView.state c.args.end.now.other.now).bases.neighbourhood.neighbours (λ o e. IsGivenIn c.args.end.now.i c.args.end.now.link e.0.addrs) c.args.place c.in-Some.field-0-0.now (c.in-Some.neighbour.now, c.in-Some.field-0-2) c.given_in.result
    (sym c.neighbour.ensures ∙ ap entry_of c.in-Some.is) (rw c.as_slice.ensures at c.given_in.ensures)
