use Rattle.mesh_addr.proofs.OneLeast.{one_least}
use Rattle.mesh_addr.proofs.laws.one_least.Goals as goal

pub returns : goal.returns
returns c = λ width addrs a b here there. one_least width addrs a b here there
