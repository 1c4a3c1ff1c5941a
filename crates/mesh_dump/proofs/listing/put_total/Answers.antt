use Rattle.mesh_dump.proofs.Common.{arith, common_steps, total_text}
use Rattle.mesh_io.proofs.Fronts.{join}
use Rattle.mesh_dump.proofs.listing.put_total.Goals as goal

pub returns : goal.returns
unfolding total_text
returns c = grind (arith, common_steps, join, c.in_ok-append.ensures.ok, c.in_ok-put_decimal.ensures.ok, c.in_ok-append-2.ensures.ok, c.in_ok-put_decimal-2.ensures.ok, c.append-3.ensures.ok)
