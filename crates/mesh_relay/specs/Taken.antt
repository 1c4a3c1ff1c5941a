-- Sets of neighbours as flags, one for each place.
use Rattle.std.specs.Prelude.{◌≡◌, ℕ, ◌≤◌, ◌<◌, ◌⊎◌, Bool, true, false, cond, nat_lt, List, [], ◌∷◌, Contains, Option, Some, None, length, slice_index, slice_index_or, suc}
use Rattle.mesh_atoms.specs.declared.addr.Addr4.{Addr4}
use Rattle.mesh_atoms.specs.declared.graphs.Near.{Near}
use Rattle.mesh_atoms.specs.declared.graphs.Far.{Far}
use Rattle.mesh_atoms.specs.declared.graphs.NeighbourGraph.{NeighbourGraph}
use Rattle.mesh_atoms.specs.Relays.{IsWilling, IsOtherRelay, IsAsCheap, Covers}
use Rattle.mesh_relay.specs.declared.ways.Way.{Way}
use Rattle.mesh_relay.specs.Ways.{IsAt, are_all_reached}

-- the ids of the neighbours that are taken
abbrev pub ids_of : List Near → List Bool → List Addr4
ids_of [] taken = []
ids_of (n ∷ ns) [] = []
ids_of (n ∷ ns) (t ∷ ts) = cond t (n.id ∷ ids_of ns ts) (ids_of ns ts)

-- the neighbour at that place is taken
abbrev pub IsTaken : List Bool → ℕ → Type 0
IsTaken taken place = slice_index_or taken place false ≡ true

-- the neighbour at that place isn't taken
abbrev pub IsFree : List Bool → ℕ → Type 0
IsFree taken place = (place < length taken) × (slice_index_or taken place false ≡ false)

-- how many aren't taken
abbrev pub free_count : List Bool → ℕ
free_count [] = 0
free_count (t ∷ ts) = cond t (free_count ts) (suc (free_count ts))

-- the neighbour's gain is greater than that of the best one so far
abbrev pub is_better : List ℕ → ℕ → Option ℕ → Bool
is_better gains place None = true
is_better gains place (Some best) = nat_lt (slice_index gains best) (slice_index gains place)

-- of so many first neighbours it is, among those that aren't taken, the first one of greatest gain; none where all of them are taken
abbrev pub IsBest : List ℕ → List Bool → ℕ → Option ℕ → Type 0
IsBest gains taken many None = (k : ℕ) → k < many → IsTaken taken k
IsBest gains taken many (Some best) =
    (best < many) × (slice_index_or taken best false ≡ false)
    × ((k : ℕ) → k < many → slice_index_or taken k false ≡ false →
    (slice_index gains k < slice_index gains best) ⊎ ((slice_index gains k ≡ slice_index gains best) × (best ≤ k)))

-- each address has a way by a neighbour that is taken
abbrev pub reaches : List Way → List Bool → Bool
reaches ways taken = are_all_reached (λ w. slice_index_or taken w.place false) ways

-- by way of the ids but that one, some address is dearer than by way of all willing neighbours
abbrev pub IsDearer : NeighbourGraph → List Addr4 → Addr4 → Type 0
IsDearer g ids id = (f : Far) × Contains g.far f × (IsAsCheap g (IsOtherRelay ids id) IsWilling f.addr → ⊥)

-- what is taken covers, and of the neighbours from that place on each one of willingness below 15 that is taken is needed
pub record IsPruned (g : NeighbourGraph) (willing : List Near) (taken : List Bool) (place : ℕ) : Type 0 where
  pub length : length taken ≡ length willing
  pub covers : Covers g (ids_of willing taken)
  pub needed : (k : ℕ) (n : Near) → place ≤ k → IsAt willing k n → IsTaken taken k → n.will < 15 → IsDearer g (ids_of willing taken) n.id
