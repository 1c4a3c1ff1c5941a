use Rattle.mesh_hello.proofs.Collect.{iff_on}
use Rattle.mesh_hello.proofs.told.sender.sending_list.Goals as goal

pub returns : goal.returns
returns c = (c.ascending.ensures.order, λ a. iff_on (c.ascending.ensures.same a) (c.in_ok-addrs.ensures a))
