-- When the keys of messages are the same.
use Rattle.mesh_flood.proofs.Common.{arith, common_steps, flood_eq}
use Rattle.std.specs.Cmp.{IsEquivalence}

pub flood_equiv : IsEquivalence flood_eq
flood_equiv = grind (arith, common_steps)
