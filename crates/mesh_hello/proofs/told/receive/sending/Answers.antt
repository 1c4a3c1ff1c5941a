use Rattle.mesh_hello.proofs.Common.{sym}
use Rattle.mesh_hello.proofs.told.receive.sending.Goals as goal

pub returns-in-Some : goal.returns-in-Some
returns-in-Some c =
    rw (← c.as_slice-row-items.ensures)
    (c.row-item.result, ((c.loop-row.row-index, c.loop-row-test.true, sym c.row-item.is), c.in-Some.ensures.addr), c.in-Some.ensures.told)
