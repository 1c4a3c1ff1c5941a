use Rattle.mesh_links.proofs.Common.{sym, arith, link_eq, trimmed, link_equiv, walk_changed, distinct-changed_at}
use Rattle.mesh_links.proofs.expiry.trim_all.Goals as goal

pub loop-place-preserved : goal.loop-place-preserved
loop-place-preserved g c = record {
  content = walk_changed link_equiv (trimmed c.args.now) (g.T.Table.content c.args.table.now) (g.T.Table.content c.loop-place.table) _ c.loop-place.place c.in-Some.key.now (c.in-Some.field-0-1.now, c.in-Some.field-0-2) c.loop-place.invariant.content (omega (arith, c.len-place-end.ensures.value)) (sym c.in-Some.ensures) c.loop-place.invariant.distinct c.trim_at.ensures;
  distinct = rw c.trim_at.ensures (distinct-changed_at link_eq c.in-Some.key.now (trimmed c.args.now) (g.T.Table.content c.loop-place.table) c.loop-place.invariant.distinct);
}
