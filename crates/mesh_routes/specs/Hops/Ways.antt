-- The ways to neighbours: which link goes to which neighbour, and which is the best.
use Rattle.std.specs.Prelude.{◌≡◌, ◌≢◌, ℕ, ◌<◌, ◌≤◌, ◌⊎◌, List, Contains, Option, Some, None}
use Rattle.std.specs.Ordering.{nat_cmp, ordering_then}
use Rattle.std.specs.declared.cmp.Ordering.{Ordering}
use Rattle.mesh_atoms.specs.declared.addr.Addr4.{Addr4}
use Rattle.mesh_atoms.specs.declared.codes.metric.Metric.{Metric}
use Rattle.mesh_atoms.specs.declared.tuples.LinkKey.{LinkKey}
use Rattle.mesh_atoms.specs.declared.tuples.Link.{Link}
use Rattle.mesh_atoms.specs.Codes.Codes.{metric_value}
use Rattle.mesh_routes.specs.declared.hops.owners.SymmetricNeighbour.{SymmetricNeighbour}
use Rattle.mesh_routes.specs.declared.hops.ways.NeighbourLink.{NeighbourLink}
use Rattle.mesh_routes.specs.Hops.Owners.{OwnerMap, owner_at}

-- by the link of interface i with that key to the neighbour, at that metric
abbrev pub way_at : ℕ → LinkKey → Option SymmetricNeighbour → Option Metric → Option NeighbourLink
way_at i key None m = None
way_at i key (Some owner) None = None
way_at i key (Some owner) (Some m) = Some (record { originator = owner.originator; metric = metric_value m; iface = i; next = key.addr })

-- by a link of interface i
abbrev pub way_of : OwnerMap → ℕ → LinkKey × (Link × ℕ) → Option NeighbourLink
way_of owners i e = way_at i e.0 (owner_at owners e.0.addr) e.1.0.link_out

-- the order of ways: those to one neighbour stand together, the best of them first
abbrev pub way_cmp : NeighbourLink → NeighbourLink → Ordering
way_cmp a b = ordering_then (nat_cmp a.originator.0 b.originator.0)
    (ordering_then (nat_cmp a.metric b.metric) (ordering_then (nat_cmp a.iface b.iface) (nat_cmp a.next.0 b.next.0)))

-- a lesser metric; at the same, a lesser interface, and at the same, no greater address
abbrev pub IsNoWorse : NeighbourLink → NeighbourLink → Type 0
IsNoWorse w v = (w.metric < v.metric) ⊎ ((w.metric ≡ v.metric) × ((w.iface < v.iface) ⊎ ((w.iface ≡ v.iface) × (w.next.0 ≤ v.next.0))))

-- the best of the ways to a neighbour
pub record IsBestLink (ways : List NeighbourLink) (originator : Addr4) (w : NeighbourLink) : Type 0 where
  pub stands : Contains ways w
  pub leads : w.originator ≡ originator
  pub best : (v : NeighbourLink) → Contains ways v → v.originator ≡ originator → IsNoWorse w v

-- no way leads to the neighbour
abbrev pub IsCutOff : List NeighbourLink → Addr4 → Type 0
IsCutOff ways originator = (v : NeighbourLink) → Contains ways v → v.originator ≢ originator
