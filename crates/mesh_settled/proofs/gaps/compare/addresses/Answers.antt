use Rattle.mesh_settled.proofs.gaps.compare.addresses.Goals as goal

pub returns : goal.returns
returns c = c.least_apart.ensures _ _ c.least_missing.ensures c.least_missing-2.ensures
