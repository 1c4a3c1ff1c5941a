-- The neighbours by which alone an address is reached.
use Rattle.std.specs.Prelude.{◌≡◌, ℕ, ◌<◌, Bool, true, false, ◌&&◌, ◌||◌, cond, not, nat_eq, nat_le, List, slice_index_or, slice_set}
use Rattle.mesh_atoms.specs.declared.graphs.Near.{Near}
use Rattle.mesh_relay.specs.declared.soles.Takers.{Takers}
use Rattle.mesh_relay.specs.declared.soles.Takers.TheVariants.{Nobody, One, Several}
use Rattle.mesh_relay.specs.declared.soles.Pass.{Pass}
use Rattle.mesh_relay.specs.declared.ways.Way.{Way}
use Rattle.mesh_relay.specs.Ways.{IsAt, are_all_reached_on}

-- the takers and the one at that place
abbrev pub with_taker : Takers → ℕ → Takers
with_taker Nobody place = One place
with_taker (One first) place = cond (nat_eq first place) (One first) Several
with_taker Several place = Several

-- the takers and the neighbour at that place, where it is taken
abbrev pub counted : Takers → ℕ → List Bool → Takers
counted takers place taken = cond (slice_index_or taken place false) (with_taker takers place) takers

-- the one taker's place is below that number
abbrev pub is_within : Takers → ℕ → Type 0
is_within Nobody n = Unit {0}
is_within (One place) n = place < n
is_within Several n = Unit {0}

-- one of the takers stands elsewhere
abbrev pub others_reach : Takers → ℕ → Bool
others_reach Nobody k = false
others_reach (One place) k = not (nat_eq place k)
others_reach Several k = true

-- without the neighbour at k, what a pass and its notes tell together with the ways that are left: each address is reached
abbrev pub tells : List Bool → List Bool → Pass → ℕ → List Way → Bool
tells taken soles pass k ways =
    (pass.reached && not (slice_index_or soles k false)) && are_all_reached_on (λ w. slice_index_or (slice_set taken k false) w.place false) pass.addr (others_reach pass.takers k) ways

-- a neighbour that is taken has willingness 15 or alone reaches an address, and one that isn't has another willingness
abbrev pub is_fit : Near → Bool → Bool → Bool
is_fit n taken sole = cond taken (nat_le 15 n.will || sole) (not (nat_eq n.will 15))

-- each neighbour is fit
abbrev pub AreFit : List Near → List Bool → List Bool → Type 0
AreFit willing taken soles = (k : ℕ) (n : Near) → IsAt willing k n → is_fit n (slice_index_or taken k false) (slice_index_or soles k false) ≡ true
