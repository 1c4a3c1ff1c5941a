use Rattle.mesh_expire.proofs.Common.{arith, sym, slice_get_within}
use Rattle.mesh_expire.proofs.swept_table.expired_place.Goals as goal

pub returns-then-entry-now-clause-some : goal.returns-then-entry-now-clause-some
returns-then-entry-now-clause-some g c = ((c.in_ok-entry.field-0-0.now, c.in_ok-entry.entry.now), sym c.in_ok-entry.ensures.entry, c.if-entry-now.true)

pub returns-clause-none : goal.returns-clause-none
returns-clause-none g c i e at = c.loop-place.invariant i e (omega (arith, slice_get_within c.args.map.now.entries i e at, c.loop-place-test.false, c.len-place-end.ensures.len)) at
