use Rattle.mesh_wire.proofs.EachHello.{hello_or_not}
use Rattle.mesh_wire.proofs.EachTc.{tc_or_not}
use Rattle.mesh_wire.proofs.laws.each_is_read_or_refused.Goals as goal

pub returns-clause-hello : goal.returns-clause-hello
returns-clause-hello c = λ message octets. hello_or_not message octets

pub returns-clause-tc : goal.returns-clause-tc
returns-clause-tc c = λ message octets. tc_or_not message octets
