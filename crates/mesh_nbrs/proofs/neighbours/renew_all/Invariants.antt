use Rattle.mesh_nbrs.proofs.Common.{List, Some, addr_eq, LinkNote, HasSummary, KeepsAddrs, AreSummariesOf}
use Rattle.mesh_nbrs.proofs.Walks.{IsWalked}
use Rattle.mesh_nbrs.proofs.neighbours.renew_all.Given as goal

abbrev pub invariant-loop-place : goal.invariant-loop-place
invariant-loop-place g l = record {
  walked : IsWalked addr_eq (λ old new. (notes : List LinkNote) → AreSummariesOf notes l.parts.entries → HasSummary notes (Some old) (Some new)) (g.T.Table.content l.initial.table) (g.T.Table.content l.table) l.place;
  addrs : KeepsAddrs (g.T.Table.content l.initial.table) (g.T.Table.content l.table);
}
