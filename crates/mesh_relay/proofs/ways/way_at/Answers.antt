use Rattle.mesh_relay.proofs.Sought.{is_dearer, is_cheaper}
use Rattle.mesh_relay.proofs.ways.way_at.Goals as goal

pub returns-then-is_direct : goal.returns-then-is_direct
returns-then-is_direct c =
    is_dearer c.args.graph.now c.args.directs.now c.args.place c.args.near c.args.far c.is_direct.result c.requires.direct
    (rw (c.from.ensures, c.from-2.ensures) at c.is_direct.ensures) c.if-is_direct.true

pub returns-else-is_direct : goal.returns-else-is_direct
returns-else-is_direct c = rw (c.from.ensures, c.from-2.ensures)
    (is_cheaper c.args.graph.now c.args.directs.now c.args.place c.args.near c.args.far c.is_direct.result c.requires.direct
    (rw (c.from.ensures, c.from-2.ensures) at c.is_direct.ensures) c.if-is_direct.false)
