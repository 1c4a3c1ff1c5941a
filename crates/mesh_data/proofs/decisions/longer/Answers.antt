use Rattle.mesh_data.proofs.Common.{inr, sym}
use Rattle.mesh_data.proofs.decisions.longer.Goals as goal

pub returns-in-Some : goal.returns-in-Some
returns-in-Some c = inr (inr (c.in-Some.so_far, c.in-Some.is, c.if-attached-so_far.true), sym c.in-Some.is)
