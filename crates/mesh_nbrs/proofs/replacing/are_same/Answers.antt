use Rattle.std.proofs.lemmas.Slice.Eq.{slice_eq-Decides}
use Rattle.mesh_atoms.proofs.Deciding.{Decides-addr}
use Rattle.mesh_nbrs.proofs.replacing.are_same.Goals as goal

pub returns : goal.returns
returns c = slice_eq-Decides Decides-addr c.args.addrs.now c.args.others.now c.eq.result c.eq.ensures
