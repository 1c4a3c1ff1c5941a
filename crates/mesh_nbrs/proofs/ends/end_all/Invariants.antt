use Rattle.mesh_nbrs.proofs.Common.{◌≡◌, ◌≤◌, length, Neighbour, HasDistinctKeys, addr_eq, HasSummaryAt}
use Rattle.mesh_nbrs.proofs.Ended.{HasEnded}
use Rattle.mesh_nbrs.proofs.ends.end_all.Given as goal

abbrev pub invariant-loop-next : goal.invariant-loop-next
invariant-loop-next g l =
    let before = g.T.Table.content l.initial.table in
    let now = g.T.Table.content l.table in
    record {
      kept : (q : _) → HasEnded addr_eq (λ o (n : Neighbour). HasSummaryAt l.parts.entries n.addrs → ⊥) before now q;
      none : length before ≤ length now → now ≡ before;
      within : length now ≤ length before;
      distinct : HasDistinctKeys addr_eq now;
    }

abbrev pub decreases-loop-next : goal.decreases-loop-next
decreases-loop-next g l = length (g.T.Table.content l.table)
