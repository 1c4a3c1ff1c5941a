use Rattle.mesh_nbrs.proofs.Common.{◌≡◌, true, ap, is_some, arith, addr_eq, same_addr, HasSummaryAt}
use Rattle.mesh_nbrs.proofs.Ended.{ended_more}
use Rattle.mesh_nbrs.proofs.ends.end_all.Goals as goal

pub loop-next-preserved : goal.loop-next-preserved
loop-next-preserved g c =
    let next = c.in-Some.ensures.some in
    let found : c.remove.result ≡ true = c.remove.ensures.found.1 (ap is_some next.1) in
    record {
      kept = ended_more addr_eq same_addr (λ o n. HasSummaryAt c.args.parts.now.entries n.addrs → ⊥) (g.T.Table.content c.args.table.now) (g.T.Table.content c.loop-next.table) (g.T.Table.content c.remove.new.self) c.in-Some.next.1 next.0 c.loop-next.invariant.kept next.1 next.2 c.remove.ensures.removed;
      none = λ many. absurd (omega (arith, many, c.loop-next.invariant.within, rw found at c.remove.ensures.count));
      within = omega (arith, c.loop-next.invariant.within, rw found at c.remove.ensures.count);
      distinct = c.remove.ensures.distinct;
    }
