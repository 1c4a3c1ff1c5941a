use Rattle.mesh_settled.proofs.Common.{sym, ap, ◌∙◌, entry_of, seen}
use Rattle.mesh_settled.proofs.GapsLemmas.TwoHopLemmas.{held_here}
use Rattle.mesh_settled.proofs.gaps.two_hops.held_at.Goals as goal

pub returns-then-key-end : goal.returns-then-key-end
returns-then-key-end g c =
    held_here (seen g.R.RouterView.state c.args.site.now) (g.R.RouterView.state c.args.site.now.router.now) c.args.end.now.i c.args.end.now.link c.args.place
    c.in-Some.key.now (c.in-Some.field-0-1.now, c.in-Some.field-0-2) c.gap_at.result (sym c.two_hop.ensures ∙ ap entry_of c.in-Some.is) c.if-key-end.true c.gap_at.ensures
