use Rattle.std.proofs.lemmas.Slice.Eq.{slice_eq-Decides}
use Rattle.mesh_links.proofs.Common.{same_addr}
use Rattle.mesh_atoms.proofs.Values.{addr_itself}
use Rattle.mesh_links.proofs.addresses.are_same.Goals as goal

pub returns : goal.returns
returns c = slice_eq-Decides (λ a b. (same_addr a b, addr_itself a b)) c.args.addrs.now c.args.others.now c.eq.result c.eq.ensures
