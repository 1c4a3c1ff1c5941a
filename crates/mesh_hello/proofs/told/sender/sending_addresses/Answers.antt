use Rattle.mesh_hello.proofs.ToldLemmas.Senders.{sends}
use Rattle.mesh_hello.proofs.told.sender.sending_addresses.Goals as goal

pub returns : goal.returns
returns c = sends c.args.hello.now c.args.sender c.in_ok-addrs.addrs.items c.or_sender.new.addrs.items c.in_ok-addrs.ensures c.in_ok-or_sender.ensures
