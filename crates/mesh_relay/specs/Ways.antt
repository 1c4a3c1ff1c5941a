-- The cheapest ways to the addresses that need a relay.
use Rattle.std.specs.Prelude.{◌≡◌, ℕ, ◌+◌, ◌≤◌, ◌<◌, ◌⊎◌, Bool, true, false, ◌&&◌, ◌||◌, cond, nat_eq, nat_lt, nat_le, List, [], ◌∷◌, Contains, AllPairs, ◌↔◌, Option, Some, None, length, slice_index_or}
use Rattle.mesh_atoms.specs.declared.addr.Addr4.{Addr4}
use Rattle.mesh_atoms.specs.declared.graphs.Near.{Near}
use Rattle.mesh_atoms.specs.declared.graphs.Direct.{Direct}
use Rattle.mesh_atoms.specs.declared.graphs.Far.{Far}
use Rattle.mesh_atoms.specs.declared.graphs.NeighbourGraph.{NeighbourGraph}
use Rattle.mesh_atoms.specs.Relays.{Offers, IsWilling}
use Rattle.mesh_atoms.specs.Base.{addr_eq}
use Rattle.mesh_relay.specs.declared.ways.Way.{Way}
use Rattle.mesh_relay.specs.declared.seek.Seek.{Seek}
use Rattle.mesh_relay.specs.Tests.{is_direct_within}

-- the list has all willing neighbours, in ascending order of id
pub record AreWilling (g : NeighbourGraph) (willing : List Near) : Type 0 where
  pub each : (n : Near) → Contains willing n ↔ (Contains g.near n × IsWilling n)
  pub order : AllPairs (λ m n. m.id.0 < n.id.0) willing

-- the neighbour stands at that place
abbrev pub IsAt : List Near → ℕ → Near → Type 0
IsAt willing place n = (place < length willing) × (slice_index_or willing place n ≡ n)

-- some direct entry offers the address at no more than that
abbrev pub IsDirect : NeighbourGraph → Addr4 → ℕ → Type 0
IsDirect g y most = (d : Direct) × Contains g.direct d × ((d.addr ≡ y) × (d.cost ≤ most))

-- the way is one by the neighbour at its place, it costs less than any direct entry, and no willing neighbour offers less
pub record IsCheapest (g : NeighbourGraph) (willing : List Near) (w : Way) : Type 0 where
  pub near : Near
  pub at : IsAt willing w.place near
  pub far : Far
  pub within : Contains g.far far
  pub via : near.id ≡ far.via
  pub addr : w.addr ≡ far.addr
  pub cost : w.cost ≡ near.cost + far.cost
  pub no_direct : IsDirect g w.addr w.cost → ⊥
  pub least : (c : ℕ) → Offers g IsWilling w.addr c → w.cost ≤ c

-- of ways to the entry's address one is cheaper than the entry by that neighbour, or is the neighbour's own
abbrev pub HasWay : List Near → List Way → Near → Far → Type 0
HasWay willing ways n f = (w : Way) × Contains ways w × (w.addr ≡ f.addr) × ((w.cost < n.cost + f.cost) ⊎ IsAt willing w.place n)

-- the addresses begin at that number and never fall
abbrev pub RisesFrom : ℕ → List Way → Type 0
RisesFrom low [] = Unit {0}
RisesFrom low (w ∷ ws) = (low ≤ w.addr.0) × RisesFrom w.addr.0 ws

-- the ways are the cheapest ones, and each entry has one or a direct entry that is as cheap
pub record AreWays (g : NeighbourGraph) (willing : List Near) (ways : List Way) : Type 0 where
  pub each : (w : Way) → Contains ways w → IsCheapest g willing w
  pub rest : (n : Near) (f : Far) → Contains willing n → Contains g.far f → n.id ≡ f.via →
      IsDirect g f.addr (n.cost + f.cost) ⊎ HasWay willing ways n f
  pub order : RisesFrom 0 ways

-- the way that the entry gives by the neighbour at that place, and none where a direct entry is as cheap
abbrev pub way_at : NeighbourGraph → ℕ → Near → Far → Option Way
way_at g place n f =
    cond (is_direct_within g f.addr (n.cost + f.cost)) None (Some (record { addr = f.addr; cost = n.cost + f.cost; place = place }))

-- the way that the entry gives by the first of the neighbours that has its id; they stand from that place on
abbrev pub way_from : NeighbourGraph → ℕ → List Near → Far → Option Way
way_from g place [] f = None
way_from g place (n ∷ ns) f = cond (addr_eq n.id f.via) (way_at g place n f) (way_from g (place + 1) ns f)

-- the first of the neighbours that has that id, and its place; they stand from that place on
abbrev pub near_from : ℕ → List Near → Addr4 → Option (ℕ × Near)
near_from place [] id = None
near_from place (n ∷ ns) id = cond (addr_eq n.id id) (Some (place, n)) (near_from (place + 1) ns id)

-- what was found is the neighbour of that id
abbrev pub IsSought : List Near → Seek → Type 0
IsSought willing s = s.found ≡ near_from 0 willing s.via

-- the direct entry offers the address at no more than that
abbrev pub is_offer : Addr4 → ℕ → Direct → Bool
is_offer y most d = addr_eq d.addr y && nat_le d.cost most

-- one of the first direct entries, those of that address, costs no more than that
abbrev pub is_first_within : Addr4 → ℕ → List Direct → Bool
is_first_within y most [] = false
is_first_within y most (d ∷ ds) = cond (addr_eq d.addr y) (nat_le d.cost most || is_first_within y most ds) false

-- of ways in order, the next one is dearer than the last one to its address, or by the same neighbour
abbrev pub is_no_better : Way → Way → Bool
is_no_better next last = addr_eq next.addr last.addr && (nat_lt last.cost next.cost || nat_eq next.place last.place)

-- the address is reached, or one of the ways that go on to it passes the test; and each later address has a way that passes
abbrev pub are_all_reached_on : (Way → Bool) → Addr4 → Bool → List Way → Bool
are_all_reached_on test y reached [] = reached
are_all_reached_on test y reached (w ∷ ws) =
    cond (addr_eq w.addr y) (are_all_reached_on test y (reached || test w) ws) (reached && are_all_reached_on test w.addr (test w) ws)

-- each address has a way that passes the test
abbrev pub are_all_reached : (Way → Bool) → List Way → Bool
are_all_reached test [] = true
are_all_reached test (w ∷ ws) = are_all_reached_on test w.addr (test w) ws
