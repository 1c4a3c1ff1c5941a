use Rattle.mesh_relay.proofs.Common.{arith}
use Rattle.mesh_relay.proofs.Taken.{ids_more_taken, ids_more_untaken}
use Rattle.mesh_relay.proofs.choice.ids_of.Goals as goal
use Rattle.mesh_relay.proofs.choice.ids_of.Goals.{then-taken-place+in_ok-push, else-taken-place}

pub loop-place-preserved : goal.loop-place-preserved
loop-place-preserved c = elim c.if-taken-place.branch [
  | then-taken-place+in_ok-push w ↦ rw (w.ids-is, w.in_ok-push.ensures.items)
      (ids_more_taken c.loop-place.ids.items c.args.willing.now c.args.taken.now c.loop-place.place _ _ _ c.loop-place-test.true
      (omega (arith, c.loop-place-test.true, c.requires)) w.if-taken-place.true c.loop-place.invariant)
  | else-taken-place w ↦ rw w.ids-is
      (ids_more_untaken c.loop-place.ids.items c.args.willing.now c.args.taken.now c.loop-place.place _ _ c.loop-place-test.true
      (omega (arith, c.loop-place-test.true, c.requires)) w.if-taken-place.false c.loop-place.invariant)
]
