-- How an event ends: what follows from the bases of a router is renewed.
use Rattle.std.specs.Prelude.{◌≡◌, ◌≢◌, ℕ, ◌+◌, ◌%◌, ◌⊎◌, [], Some}
use Rattle.mesh_atoms.specs.declared.addr.Addr4.{Addr4}
use Rattle.mesh_atoms.specs.Advertised.{AreTcRows}
use Rattle.mesh_atoms.specs.RelayGraphs.{AreRelays}
use Rattle.mesh_atoms.specs.Routes.{AreRoutes}
use Rattle.mesh_atoms.specs.State.{State, Bases}

-- the ANSN rises by one, and goes round, where the advertised rows change (RFC 7181, section 17.4)
abbrev pub IsNextAnsn : State → State → Type 0
IsNextAnsn old new =
    ((new.rows ≡ old.rows) × (new.ansn ≡ old.ansn)) ⊎ ((new.rows ≢ old.rows) × (new.ansn ≡ (old.ansn + 1) % 65536))

-- the moment at which the rows last became empty: that of this event, where they are empty and weren't before
abbrev pub IsEmptied : State → State → Type 0
IsEmptied old new =
    ((new.rows ≡ []) × (old.rows ≢ []) × (new.emptied ≡ Some new.last))
    ⊎ (((new.rows ≢ []) ⊎ (old.rows ≡ [])) × (new.emptied ≡ old.emptied))

-- an event at now leaves these bases, and what follows from them is renewed: relays (RFC 7181, section 18), advertised rows
-- (section 16.1) with their ANSN, and routes (section 19). Whatever isn't named here, the event says itself
pub record Renews (old : State) (now : ℕ) (bases : Bases) (new : State) : Type 0 where
  pub settings : new.settings ≡ old.settings
  pub bases_are : new.bases ≡ bases
  pub last : new.last ≡ now
  pub relays : AreRelays new now
  pub rows : AreTcRows new new.rows
  pub ansn : IsNextAnsn old new
  pub emptied : IsEmptied old new
  pub self : Addr4
  pub routes : AreRoutes new now self
