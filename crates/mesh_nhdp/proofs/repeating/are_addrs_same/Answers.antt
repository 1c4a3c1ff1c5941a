use Rattle.mesh_nhdp.proofs.Common.{slice_eq-Decides}
use Rattle.mesh_nhdp.proofs.Deciding.{addrs}
use Rattle.mesh_nhdp.proofs.repeating.are_addrs_same.Goals as goal

pub returns : goal.returns
returns c = slice_eq-Decides (λ a b. addrs a b) c.args.addrs.now c.args.others.now c.eq.result c.eq.ensures
