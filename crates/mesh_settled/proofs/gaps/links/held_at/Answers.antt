use Rattle.mesh_settled.proofs.Common.{sym, ap, ◌∙◌, ◌≡◌, entry_of, base_of, Link, seen}
use Rattle.mesh_settled.proofs.GapsLemmas.Leasts.{at_entry}
use Rattle.mesh_settled.proofs.gaps.links.held_at.Goals as goal

pub returns-in-Some : goal.returns-in-Some
returns-in-Some g c =
    at_entry (seen g.R.RouterView.state c.args.site.now) (base_of (g.R.RouterView.state c.args.site.now.router.now).bases.neighbourhood.links c.args.i) (λ key e k. k ≡ Link c.args.i key) c.args.place
    c.in-Some.key.now (c.in-Some.field-0-1.now, c.in-Some.field-0-2) c.gap_at.result (sym c.link.ensures ∙ ap entry_of c.in-Some.is) c.gap_at.ensures
