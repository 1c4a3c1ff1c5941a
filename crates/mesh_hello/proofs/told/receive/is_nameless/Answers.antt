use Rattle.mesh_hello.proofs.ToldLemmas.Local.{nameless_by, no_value}
use Rattle.mesh_hello.proofs.told.receive.is_nameless.Goals as goal

pub returns-then-is_none : goal.returns-then-is_none
returns-then-is_none c = nameless_by c.args.sender c.args.hello.now c.sending.result c.sending.ensures (no_value c.args.hello.now.originator _ c.is_none.ensures c.if-is_none.true) _ (rw (← c.unwrap_or-first.ensures) c.has_local_beyond.ensures)
