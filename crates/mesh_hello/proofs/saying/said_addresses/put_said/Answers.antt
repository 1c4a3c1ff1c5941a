use Rattle.mesh_hello.proofs.Common.{sym, arith, none_within}
use Rattle.mesh_hello.proofs.Places.{put_next}
use Rattle.mesh_hello.proofs.saying.said_addresses.put_said.Goals as goal
use Rattle.mesh_hello.proofs.saying.said_addresses.put_said.Goals.{in-Some+in_ok-extend_from_slice, in_default}

pub loop-place-preserved : goal.loop-place-preserved
loop-place-preserved g c = elim c.match-at.branch [
  | in-Some+in_ok-extend_from_slice w ↦ rw (w.list-is, w.in_ok-extend_from_slice.ensures.items, w.said.ensures)
      (put_next (λ e. g.V.HasSaid.said e.1.0) (g.T.Table.content c.args.table.now) c.loop-place.place
      (w.in-Some.field-0-0.now, (w.in-Some.tuple.now, w.in-Some.field-0-2)) _ _ (sym w.in-Some.ensures) c.loop-place.invariant)
  | in_default w ↦ none_within (g.T.Table.content c.args.table.now) c.loop-place.place (omega (arith, c.loop-place-test.true, c.len-place-end.ensures.value)) w.in_default.ensures
]
