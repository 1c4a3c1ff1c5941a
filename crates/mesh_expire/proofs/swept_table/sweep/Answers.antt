use Rattle.mesh_expire.proofs.Common.{common_steps, ◌-◌, arith, IfSome_then}
use Rattle.mesh_expire.proofs.Sweeping.{swept_all, swept_without}
use Rattle.mesh_expire.proofs.swept_table.sweep.Goals as goal

pub loop-place-preserved-else-now-entry : goal.loop-place-preserved-else-now-entry
loop-place-preserved-else-now-entry g c =
    swept_without g.K.PartialEq.eq c.args.now c.loop-place.soonest c.args.map.now.entries c.loop-place.map.entries c.loop-place.place (c.loop-place.place - 1) (omega arith) c.loop-place.invariant
    g.met.K.Eq.laws c.swap_remove_index.new.self.entries (c.in-Some.field-0-0.now, c.in-Some.entry.now) c.swap_remove_index.result c.in-Some.ensures.entry (omega (arith, c.if-now-entry.false)) c.swap_remove_index.ensures.entry
    c.swap_remove_index.ensures.entries (IfSome_then c.swap_remove_index.result c.swap_remove_index.ensures.updates (λ p updates q. updates.0 q)) c.swap_remove_index.ensures.len c.swap_remove_index.ensures.unique

pub loop-place-preserved : goal.loop-place-preserved
loop-place-preserved g c = grind (arith, common_steps, IfSome_then, c.loop-place.invariant, c.in-Some.ensures.entry, c.swap_remove_index.ensures.entry, c.swap_remove_index.ensures.entries, c.swap_remove_index.ensures.updates, c.swap_remove_index.ensures.len)

pub returns-clause-kept : goal.returns-clause-kept
returns-clause-kept g c = (swept_all g.K.PartialEq.eq g.met.K.Key.exact c.args.now c.loop-place.soonest c.args.map.now.entries c.loop-place.map.entries c.loop-place.place c.loop-place.invariant (omega (arith, c.loop-place-test.false))).0

pub returns-clause-swept : goal.returns-clause-swept
returns-clause-swept g c = (swept_all g.K.PartialEq.eq g.met.K.Key.exact c.args.now c.loop-place.soonest c.args.map.now.entries c.loop-place.map.entries c.loop-place.place c.loop-place.invariant (omega (arith, c.loop-place-test.false))).1
