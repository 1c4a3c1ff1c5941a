use Rattle.mesh_nbrs.proofs.Common.{sym}
use Rattle.mesh_nbrs.proofs.Owning.{none_with, noted_stands, noted_at, sole, if_none_holds}
use Rattle.mesh_nbrs.proofs.neighbours.NeighbourSet.with_address.Goals as goal

pub returns-in_err-originator-clause-none : goal.returns-in_err-originator-clause-none
returns-in_err-originator-clause-none g c =
    rw (← c.self.view_is) (if_none_holds c.from_residual.result (λ o f. none_with c.self.inside.owners.entries (g.T.Table.content c.self.inside.table) c.self.invariant.1 c.args.addr o f (sym c.in_err-originator.ensures.value)))

pub returns-in_err-neighbour-clause-none : goal.returns-in_err-neighbour-clause-none
returns-in_err-neighbour-clause-none g c =
    absurd (noted_stands c.self.inside.owners.entries (g.T.Table.content c.self.inside.table) c.self.invariant.1 c.args.addr c.in_ok-originator.originator.now (sym c.in_ok-originator.ensures.value) (sym c.in_err-neighbour.ensures))

pub returns-clause-some : goal.returns-clause-some
returns-clause-some g c =
    let found = sym c.in_ok-neighbour.ensures in
    rw (← c.self.view_is) (found, noted_at c.self.inside.owners.entries (g.T.Table.content c.self.inside.table) c.self.invariant.1 c.args.addr c.in_ok-originator.originator.now (c.in_ok-neighbour.neighbour.now, c.in_ok-neighbour.until) (sym c.in_ok-originator.ensures.value) found)

pub returns-clause-only : goal.returns-clause-only
returns-clause-only g c =
    rw (← c.self.view_is) (λ o f found has. sole c.self.inside.owners.entries (g.T.Table.content c.self.inside.table) c.self.invariant.1 c.args.addr o c.in_ok-originator.originator.now f (sym c.in_ok-originator.ensures.value) found has)
