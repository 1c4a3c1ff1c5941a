-- What a neighbour costs in the choice of relays.
use Rattle.std.specs.Prelude.{◌≡◌, ℕ, ◌≤◌, List, Contains, Some}
use Rattle.mesh_atoms.specs.declared.addr.Addr4.{Addr4}
use Rattle.mesh_atoms.specs.declared.codes.metric.Metric.{Metric}
use Rattle.mesh_atoms.specs.declared.tuples.Neighbour.{Neighbour}
use Rattle.mesh_atoms.specs.Codes.Codes.{metric_value}
use Rattle.mesh_routes.specs.declared.hops.ways.NeighbourLink.{NeighbourLink}

-- the neighbour has that metric to the router
abbrev pub CostsIn : Neighbour → ℕ → Type 0
CostsIn n c = (m : Metric) × (n.metric_in ≡ Some m) × (metric_value m ≡ c)

-- some way to the neighbour has that metric, and none a lesser one
abbrev pub CostsOver : List NeighbourLink → Addr4 → ℕ → Type 0
CostsOver ways o c =
    (w : NeighbourLink) × Contains ways w × (w.originator ≡ o) × ((v : NeighbourLink) → Contains ways v → v.originator ≡ o → w.metric ≤ v.metric)
    × (w.metric ≡ c)
