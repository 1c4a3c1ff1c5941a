use Rattle.mesh_nhdp.proofs.Common.{if_ok_weaker as if_ok}
use Rattle.mesh_nhdp.proofs.sending_link.tell_if_symmetric.Goals as goal

pub returns-then-symmetric-clause-repeats : goal.returns-then-symmetric-clause-repeats
returns-then-symmetric-clause-repeats g c = if_ok c.tell_two_hops.result (λ r same is symmetric. same is) c.tell_two_hops.ensures.repeats
