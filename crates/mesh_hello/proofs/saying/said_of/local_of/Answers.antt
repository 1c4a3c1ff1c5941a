use Rattle.mesh_hello.proofs.saying.said_of.local_of.Goals as goal

pub returns-then-is_on : goal.returns-then-is_on
returns-then-is_on c = c.is_on.ensures.0 c.if-is_on.true
