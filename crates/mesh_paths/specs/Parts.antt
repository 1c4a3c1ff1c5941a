-- The pairs of a radio graph, and its parts while they are found: each gets lower along the pairs until none can.
use Rattle.std.specs.Prelude.{◌≡◌, ℕ, ◌<◌, ◌≤◌, Bool, true, false, List, Contains, Option, Some, None, nat_eq, nat_le, ◌&&◌, slice_get, slice_index, slice_set, EachIndex}
use Rattle.std.specs.List.{list_any, sum, AllWithin}
use Rattle.mesh_atoms.specs.declared.graphs.Pair.{Pair}
use Rattle.mesh_atoms.specs.declared.settings.Interface.{Interface}
use Rattle.mesh_atoms.specs.declared.settings.RadioArc.{RadioArc}
use Rattle.mesh_atoms.specs.declared.settings.RouterSettings.{RouterSettings}
use Rattle.mesh_atoms.specs.Quality.{quality_at}

-- the interfaces that the arc joins, and its metric
abbrev pub pair_of : RadioArc → Pair
pair_of arc = record { from = arc.from; from_iface = arc.from_iface; to = arc.to; to_iface = arc.to_iface; metric = arc.metric }

-- the second arc leads back between the interfaces of the first
abbrev pub is_arc_back : RadioArc → RadioArc → Bool
is_arc_back arc back = nat_eq back.from arc.to && nat_eq back.from_iface arc.to_iface && nat_eq back.to arc.from && nat_eq back.to_iface arc.from_iface

-- the interface of the router, where there is one
abbrev pub face_in : Option RouterSettings → ℕ → Option Interface
face_in None i = None
face_in (Some router) i = slice_get router.interfaces i

-- interface i of router x, where there is one
abbrev pub face_of : List RouterSettings → ℕ → ℕ → Option Interface
face_of routers x i = face_in (slice_get routers x) i

-- the first interface accepts the quality of what the second sends
abbrev pub can_accept : ℕ → Option Interface → Option Interface → Bool
can_accept end None from = false
can_accept end (Some to) None = false
can_accept end (Some to) (Some from) = nat_le to.admit.accept (quality_at to.admit from.addrs end)

-- what the arc brings is admitted where it leads to
abbrev pub is_admitted : List RouterSettings → ℕ → RadioArc → Bool
is_admitted routers end arc = can_accept end (face_of routers arc.to arc.to_iface) (face_of routers arc.from arc.from_iface)

-- the second arc leads back between the interfaces of the first, and is admitted
abbrev pub is_admitted_back : List RouterSettings → ℕ → RadioArc → RadioArc → Bool
is_admitted_back routers end arc back = is_arc_back arc back && is_admitted routers end back

-- some admitted arc leads back between the interfaces of this
abbrev pub is_met : List RouterSettings → ℕ → List RadioArc → RadioArc → Bool
is_met routers end arcs arc = list_any (is_admitted_back routers end arc) arcs

-- the arc joins its interfaces: it and one that leads back are admitted
abbrev pub is_joined : List RouterSettings → ℕ → List RadioArc → RadioArc → Bool
is_joined routers end arcs arc = is_admitted routers end arc && is_met routers end arcs arc

-- a chain of pairs leads from router x to the router
pub data Chain (pairs : List Pair) (x : ℕ) : ℕ → Type 0 where
  Start : Chain pairs x x
  On : {y z : ℕ} (p : Pair) → Chain pairs x y → Contains pairs p → p.from ≡ y → p.to ≡ z → Chain pairs x z

-- the pair joins two of so many routers
pub record IsInside (count : ℕ) (pair : Pair) : Type 0 where
  pub first : pair.from < count
  pub second : pair.to < count

-- the part of the pair's second router is no greater than that of its first
abbrev pub IsLevel : List ℕ → Pair → Type 0
IsLevel parts pair = slice_index parts pair.to ≤ slice_index parts pair.from

-- each part is no greater than its router, to which a chain leads from it
pub record IsParts (pairs : List Pair) (parts : List ℕ) : Type 0 where
  pub chained : EachIndex parts (λ x. Chain pairs (slice_index parts x) x)
  pub least : EachIndex parts (λ x. slice_index parts x ≤ x)

-- the second router of the pair gets the part of the first, which is lesser; or nothing changes, as it is no greater
abbrev pub Lowers : Bool → List ℕ → Pair → List ℕ → Type 0
Lowers true old pair new = (new ≡ slice_set old pair.to (slice_index old pair.from)) × (slice_index old pair.from < slice_index old pair.to)
Lowers false old pair new = (new ≡ old) × IsLevel new pair

-- the first pairs of a round are tried: some part got lower, or none changed and these pairs are level
abbrev pub Goes : Bool → List ℕ → List Pair → ℕ → List ℕ → Type 0
Goes true old pairs count new = sum new < sum old
Goes false old pairs count new = (new ≡ old) × AllWithin (IsLevel new) pairs 0 count
