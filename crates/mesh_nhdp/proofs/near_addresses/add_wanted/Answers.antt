use Rattle.mesh_nhdp.proofs.Common.{◌++◌, ap, ◌∙◌, refl, adds_where}
use Rattle.mesh_nhdp.proofs.near_addresses.add_wanted.Goals as goal

pub returns-in_ok-extend_from_slice : goal.returns-in_ok-extend_from_slice
returns-in_ok-extend_from_slice c =
    adds_where c.args.addrs.now.items _ c.args.neighbour.now.addrs
    (c.in_ok-extend_from_slice.ensures.items ∙ ap (λ more. c.args.addrs.now.items ++ more) c.as_slice.ensures) (c.if-is_wanted.ensures.0 refl)
