use Rattle.mesh_bases.proofs.sending.tcs.time_nearby.Goals as goal
use Rattle.mesh_wire.proofs.Further.{odd as odd_time}

pub returns-in-None : goal.returns-in-None
returns-in-None c = let odd = odd_time c.args.value.now c.requires in let has = c.in-None.ensures.odd.1 odd in absurd cc
