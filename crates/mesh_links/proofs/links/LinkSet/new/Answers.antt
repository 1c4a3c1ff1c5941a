use Rattle.mesh_links.proofs.Common.{link_eq, distinct_none}
use Rattle.mesh_links.proofs.links.LinkSet.new.Goals as goal

pub invariant_of-result : goal.invariant_of-result
invariant_of-result g c = rw c.in_ok-new.ensures (distinct_none link_eq, λ key e found. absurd cc, record { owner = λ key e a found has. absurd cc; first = λ key e found. absurd cc })
