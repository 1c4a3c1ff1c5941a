use Rattle.mesh_expire.proofs.Common.{arith, common_steps}
use Rattle.mesh_expire.proofs.Places.{all_fresh}
use Rattle.mesh_expire.proofs.Sweeping.{taken_found}
use Rattle.mesh_expire.proofs.swept_table.take_next.Goals as goal

pub returns-in_err-place-clause-fresh : goal.returns-in_err-place-clause-fresh
returns-in_err-place-clause-fresh g c = grind (arith, common_steps, all_fresh, c.from_residual.ensures, c.in_err-place.ensures.none)

pub returns-clause-some : goal.returns-clause-some
returns-clause-some g c =
    taken_found g.K.PartialEq.eq g.met.K.Eq.laws c.args.now c.args.map.now.entries c.swap_remove_index.new.self.entries c.in_ok-place.place (c.in_ok-key.key, c.in_ok-key.entry)
    c.in_ok-key.ensures.entry c.in_ok-place.ensures.some c.requires.distinct (λ q. c.in_ok-key.ensures.updates.0 q)
