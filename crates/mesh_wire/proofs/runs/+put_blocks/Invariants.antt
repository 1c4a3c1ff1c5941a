use Rattle.mesh_wire.proofs.Common.{length, ◌-◌}
use Rattle.mesh_wire.proofs.runs.+put_blocks.Given as goal

abbrev pub decreases-put_blocks : goal.decreases-put_blocks
decreases-put_blocks l = length l.lines.now - l.start
