use Rattle.mesh_hello.proofs.ToldLemmas.Local.{bare}
use Rattle.mesh_hello.proofs.told.receive.is_bare_sender.Goals as goal

pub returns-then-contains : goal.returns-then-contains
returns-then-contains c = bare c.args.own.now c.args.sender c.args.hello.now c.sending.result _ (c.contains.ensures.0 c.if-contains.true) c.sending.ensures c.is_none.ensures
