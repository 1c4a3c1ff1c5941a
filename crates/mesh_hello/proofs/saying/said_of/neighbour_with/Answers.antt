use Rattle.mesh_hello.proofs.SayingLemmas.OneRow.{near_by, not_near, none_near}
use Rattle.mesh_hello.proofs.saying.said_of.neighbour_with.Goals as goal

pub returns-in_default : goal.returns-in_default
returns-in_default g c = none_near c.args.neighbours.now c.args.addr c.requires c.in_default.ensures.none

pub returns-then-neighbour : goal.returns-then-neighbour
returns-then-neighbour g c = near_by c.args.neighbours.now c.args.addr c.in-Some.originator.now c.in-Some.neighbour.now c.in-Some.until c.in-Some.ensures.some.0 c.in-Some.ensures.some.1 c.if-neighbour.true

pub returns-else-neighbour : goal.returns-else-neighbour
returns-else-neighbour g c = not_near c.args.neighbours.now c.args.addr c.in-Some.originator.now c.in-Some.neighbour.now c.in-Some.until c.requires c.in-Some.ensures.some.0 c.in-Some.ensures.only c.if-neighbour.false
