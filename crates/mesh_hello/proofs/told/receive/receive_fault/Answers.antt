use Rattle.mesh_hello.proofs.ToldLemmas.Local.{fault_own, fault_nameless, fault_none}
use Rattle.mesh_hello.proofs.Common.{iff_false}
use Rattle.mesh_hello.proofs.told.receive.receive_fault.Goals as goal

pub returns-then-is_own : goal.returns-then-is_own
returns-then-is_own c = fault_own c.args.sender c.args.hello.now c.args.own.now (c.is_own.ensures.0 c.if-is_own.true)

pub returns-then-is_nameless : goal.returns-then-is_nameless
returns-then-is_nameless c = fault_nameless c.args.sender c.args.hello.now c.args.own.now (iff_false c.is_own.ensures c.if-is_own.false) (c.is_nameless.ensures.0 c.if-is_nameless.true)

pub returns-else-is_nameless : goal.returns-else-is_nameless
returns-else-is_nameless c = fault_none c.args.sender c.args.hello.now c.args.own.now (iff_false c.is_own.ensures c.if-is_own.false) (iff_false c.is_nameless.ensures c.if-is_nameless.false)
