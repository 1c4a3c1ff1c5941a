use Rattle.mesh_nbrs.proofs.Common.{arith, HasSummaryAt}
use Rattle.mesh_nbrs.proofs.Owning.{owned_purged, owned_kept, keeps_same}
use Rattle.mesh_nbrs.proofs.owners.end_owned.Goals as goal

pub returns-then-end_all-gt0-clause-owned : goal.returns-then-end_all-gt0-clause-owned
returns-then-end_all-gt0-clause-owned g c =
    owned_purged (λ q e. (HasSummaryAt c.args.parts.now.entries e.0.addrs → ⊥) → ⊥) c.args.owners.now.entries c.purge.new.owners.entries (g.T.Table.content c.args.table.now) (g.T.Table.content c.end_all.new.table) c.requires.owned
    c.end_all.ensures.kept c.purge.ensures

pub returns-else-end_all-gt0-clause-owned : goal.returns-else-end_all-gt0-clause-owned
returns-else-end_all-gt0-clause-owned g c =
    owned_kept c.args.owners.now.entries (g.T.Table.content c.args.table.now) (g.T.Table.content c.end_all.new.table) c.requires.owned
    (keeps_same (g.T.Table.content c.args.table.now) (g.T.Table.content c.end_all.new.table) (c.end_all.ensures.none (omega (arith, c.if-end_all-gt0.false))))
