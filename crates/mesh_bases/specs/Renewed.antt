-- What follows from the bases of a router, and the states that have it.
use Rattle.std.specs.Prelude.{◌≡◌, ◌≢◌, ℕ, ◌+◌, ◌%◌, ◌⊎◌, [], Some}
use Rattle.mesh_atoms.specs.State.{State}
use Rattle.mesh_bases.specs.declared.derived.Derived.{Derived}

-- the state has these relays, routes and advertised rows, their ANSN, and these moments
pub record HasDerived (s : State) (derived : Derived) : Type 0 where
  pub relays : s.relays ≡ derived.relays
  pub routes : s.routes ≡ derived.routes
  pub rows : s.rows ≡ derived.rows
  pub ansn : s.ansn ≡ derived.ansn
  pub emptied : s.emptied ≡ derived.emptied
  pub last : s.last ≡ derived.last

-- the state has this number of the next TC, and these moments of the next HELLO and TC
pub record HasNext (s : State) (derived : Derived) : Type 0 where
  pub sequence : s.sequence ≡ derived.sequence
  pub next_hello : s.next_hello ≡ derived.next_hello
  pub next_tc : s.next_tc ≡ derived.next_tc

-- the ANSN rises by one, and goes round, where the advertised rows change
abbrev pub IsAnsnAfter : Derived → Derived → Type 0
IsAnsnAfter old new = ((new.rows ≡ old.rows) × (new.ansn ≡ old.ansn)) ⊎ ((new.rows ≢ old.rows) × (new.ansn ≡ (old.ansn + 1) % 65536))

-- the moment at which they last became empty is now, where they are empty and weren't before
abbrev pub IsEmptiedAt : ℕ → Derived → Derived → Type 0
IsEmptiedAt now old new =
    ((new.rows ≡ []) × (old.rows ≢ []) × (new.emptied ≡ Some now))
    ⊎ (((new.rows ≢ []) ⊎ (old.rows ≡ [])) × (new.emptied ≡ old.emptied))
