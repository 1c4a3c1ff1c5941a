use Rattle.mesh_wire.proofs.Common.{map, drop, ◌+◌, on_ok_weaker, fields_of_block, Adds, AreBlocks}
use Rattle.mesh_wire.proofs.RunLaws.{blocks_added}
use Rattle.mesh_wire.proofs.runs.+put_blocks.Goals as goal

pub returns : goal.returns
returns t c =
    let lines = c.args.lines.now in
    let start = c.args.start in
    let n = c.min.result in
    let old = map fields_of_block c.args.blocks.now in
    let mid = map fields_of_block c.push.new.self in
    let new = map fields_of_block c.put_blocks.new.blocks in
    on_ok_weaker {P = Adds (AreBlocks (drop (n + start) lines)) mid new} {Q = Adds (AreBlocks (drop start lines)) old new} c.put_blocks.result
    (blocks_added lines start n c.args.blocks.now c.push.new.self c.put_blocks.new.blocks c.in_ok-block.block c.requires.start c.if-start-lines.false c.min.ensures c.in_ok-block.ensures c.in_ok-push.ensures.ok) c.put_blocks.ensures
