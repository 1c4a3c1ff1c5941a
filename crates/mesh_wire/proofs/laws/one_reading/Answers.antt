use Rattle.mesh_wire.proofs.Common.{BreaksHello, BreaksTc}
use Rattle.mesh_wire.proofs.OneHello.{one_hello}
use Rattle.mesh_wire.proofs.OneTc.{one_tc}
use Rattle.mesh_wire.proofs.Single.{one_broken}
use Rattle.mesh_wire.proofs.laws.one_reading.Goals as goal

pub returns-clause-hello : goal.returns-clause-hello
returns-clause-hello c = λ message keeps a b here there. one_hello message keeps a b here there

pub returns-clause-tc : goal.returns-clause-tc
returns-clause-tc c = λ message keeps a b here there. one_tc message keeps a b here there

pub returns-clause-hello_broken : goal.returns-clause-hello_broken
returns-clause-hello_broken c = λ message n m a b here there. one_broken (BreaksHello message) n m a b here there

pub returns-clause-tc_broken : goal.returns-clause-tc_broken
returns-clause-tc_broken c = λ message n m a b here there. one_broken (BreaksTc message) n m a b here there
