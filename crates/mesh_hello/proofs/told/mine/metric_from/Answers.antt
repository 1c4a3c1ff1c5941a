use Rattle.mesh_hello.proofs.Common.{Contains, refl, sym, subst, inl, same_addr}
use Rattle.mesh_hello.proofs.told.mine.metric_from.Goals as goal

pub returns-then-eq : goal.returns-then-eq
returns-then-eq c = inl (
  c.entry-item.result,
  subst (λ entries. Contains entries c.entry-item.result) c.as_slice-entry-items.ensures (c.loop-entry.entry-index, c.loop-entry-test.true, sym c.entry-item.is),
  same_addr c.entry-item.result.sender c.args.sender (sym c.if-eq.ensures),
  refl,
)
