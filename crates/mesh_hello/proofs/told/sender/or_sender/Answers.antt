use Rattle.mesh_hello.proofs.Common.{arith}
use Rattle.mesh_hello.proofs.ToldLemmas.Senders.{or_sender_some}
use Rattle.mesh_hello.proofs.told.sender.or_sender.Goals as goal

pub returns-else-count-eq0 : goal.returns-else-count-eq0
returns-else-count-eq0 c a = or_sender_some c.args.addrs.now.items c.args.sender a (λ none. omega arith)
