use Rattle.mesh_nbrs.proofs.Common.{inl, inr, arith, cases_lt, same_addr, walked, HasSummaryAt}
use Rattle.mesh_nbrs.proofs.Ended.{if_none_so}
use Rattle.mesh_nbrs.proofs.ends.next_from.Goals as goal

pub returns-in-None-clause-none : goal.returns-in-None-clause-none
returns-in-None-clause-none g c = if_none_so c.next_in-in-None.result (λ before q e found. walked same_addr (g.T.Table.content c.args.table.now) (λ e. (HasSummaryAt c.args.parts.now.entries e.1.0.addrs → ⊥) → ⊥) (λ i e lt at. elim (cases_lt i c.args.start) [ inl less ↦ before i e (omega arith) less at | inr more ↦ c.in-None.ensures.none i e more (omega (arith, lt, c.len.ensures.value)) at ]) q e found) c.next_in-in-None.ensures.none
