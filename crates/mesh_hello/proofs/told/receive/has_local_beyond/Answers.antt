use Rattle.mesh_hello.proofs.Common.{sym, refl}
use Rattle.mesh_hello.proofs.told.receive.has_local_beyond.Goals as goal

pub returns-then-is_local_beyond : goal.returns-then-is_local_beyond
returns-then-is_local_beyond c =
    rw (← c.as_slice-row-items.ensures)
    ((λ h. (c.loop-row.row-index, c.row-item.result, c.loop-row-test.true, sym c.row-item.is, c.is_local_beyond.ensures.0 c.if-is_local_beyond.true)), (λ h. refl))
