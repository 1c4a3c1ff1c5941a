use Rattle.mesh_hello.proofs.Common.{arith, below_more, false≢true, iff_false, slice_get_within}
use Rattle.mesh_hello.proofs.saying.said_of.is_on_other.Goals as goal
use Rattle.mesh_hello.proofs.saying.said_of.is_on_other.Goals.{else-place-iface-via-then-place-iface+else-is_on, else-place-iface-via-else-place-iface}

pub loop-place-preserved : goal.loop-place-preserved
loop-place-preserved c = below_more _ _ c.loop-place.invariant (elim c.else-place-iface.branch [
  | else-place-iface-via-then-place-iface+else-is_on w ↦ λ ne has. iff_false w.is_on.ensures w.if-is_on.false has
  | else-place-iface-via-else-place-iface w ↦ λ ne has. ne w.if-place-iface.false
])

pub returns : goal.returns
returns c = (
  (λ h. absurd (false≢true h)),
  (λ w.
      absurd (c.loop-place.invariant w.0
      (omega (arith, c.loop-place-test.false, slice_get_within c.args.settings.now.interfaces w.0 w.2.0 w.2.1)) w.1 w.2)),
)
