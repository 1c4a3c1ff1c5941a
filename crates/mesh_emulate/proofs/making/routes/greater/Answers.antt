use Rattle.mesh_emulate.proofs.MakingLemmas.Greatest.{greatest_max}
use Rattle.mesh_emulate.proofs.making.routes.greater.Goals as goal

pub returns-in-Some : goal.returns-in-Some
returns-in-Some c metrics is = rw c.max.ensures (greatest_max metrics c.in-Some.greatest c.args.metric (rw c.in-Some.is at is))
