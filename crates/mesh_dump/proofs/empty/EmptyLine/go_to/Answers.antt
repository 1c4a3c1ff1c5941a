use Rattle.mesh_dump.proofs.EmptyLines.{stepped}
use Rattle.mesh_dump.proofs.empty.EmptyLine.go_to.Goals as goal

pub invariant_of-self : goal.invariant_of-self
invariant_of-self c =
    stepped c.self.inside.number c.args.number c.self.inside.start c.self.inside.text c.self.invariant c.if-number-self.true c.if-last-gt0.true c.ranges.number.fits c.self.told
