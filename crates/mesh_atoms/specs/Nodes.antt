-- The order of nodes: by number, then by prefix.
use Rattle.std.specs.Prelude.{◌≡◌, ◌<◌, ◌≤◌, ◌⊎◌}
use Rattle.std.specs.Ordering.{nat_cmp, ordering_then}
use Rattle.std.specs.declared.cmp.Ordering.{Ordering}
use Rattle.mesh_atoms.specs.declared.addr.NetAddr.{NetAddr}

-- the first stands before the second
abbrev pub IsBefore : NetAddr → NetAddr → Type 0
IsBefore a b = (a.addr.0 < b.addr.0) ⊎ ((a.addr.0 ≡ b.addr.0) × (a.prefix < b.prefix))

-- the first stands before the second, or is the same
abbrev pub IsAtMost : NetAddr → NetAddr → Type 0
IsAtMost a b = (a.addr.0 < b.addr.0) ⊎ ((a.addr.0 ≡ b.addr.0) × (a.prefix ≤ b.prefix))

-- the same order, by which maps keep their keys
abbrev pub net_cmp : NetAddr → NetAddr → Ordering
net_cmp a b = ordering_then (nat_cmp a.addr.0 b.addr.0) (nat_cmp a.prefix b.prefix)
