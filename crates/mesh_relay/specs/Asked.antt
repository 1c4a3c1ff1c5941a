-- Flags of neighbours with given ids.
use Rattle.std.specs.Prelude.{◌≡◌, ℕ, ◌↔◌, Bool, List, Contains, length}
use Rattle.mesh_atoms.specs.declared.addr.Addr4.{Addr4}
use Rattle.mesh_atoms.specs.declared.graphs.Near.{Near}
use Rattle.mesh_relay.specs.Ways.{IsAt}
use Rattle.mesh_relay.specs.Taken.{ids_of}

-- the neighbour of that id stands at that place
abbrev pub HasPlace : List Near → Addr4 → ℕ → Type 0
HasPlace willing id place = (n : Near) × IsAt willing place n × (n.id ≡ id)

-- each id is a willing neighbour's
abbrev pub AreWillingIds : List Near → List Addr4 → Type 0
AreWillingIds willing ids = (id : Addr4) → Contains ids id → (n : Near) × Contains willing n × (n.id ≡ id)

-- the flags are those of the neighbours with these ids
pub record AreFlagsOf (willing : List Near) (ids : List Addr4) (flags : List Bool) : Type 0 where
  pub length : length flags ≡ length willing
  pub same : (id : Addr4) → Contains (ids_of willing flags) id ↔ Contains ids id
