-- What the parts of an event leave of a router.
use Rattle.std.specs.Prelude.{◌≡◌, ◌⊎◌, ℕ, [], Bool, IsTrue}
use Rattle.mesh_atoms.specs.declared.settings.RouterSettings.{RouterSettings}
use Rattle.mesh_atoms.specs.Advertised.{AreTcRows}
use Rattle.mesh_atoms.specs.State.{Bases, Neighbourhood, State}
use Rattle.mesh_bases.specs.Held.Held.{Held}
use Rattle.mesh_bases.specs.Renewed.{HasNext, IsAnsnAfter, IsEmptiedAt}
use Rattle.mesh_bases.specs.declared.derived.Derived.{Derived}
use Rattle.mesh_trace.specs.Positions.Due.{Follows, HellosDue, TcsDue, none_told}
use Rattle.mesh_replay.specs.declared.checking.router.Before.{Before}
use Rattle.mesh_replay.specs.declared.checking.router.EventLines.{EventLines}
use Rattle.mesh_bases.specs.Held.RouterState.{router_state}
use Rattle.mesh_replay.specs.Checking.Kept.{AreWithinRows, HasLines, IsSoundRouter, StandAgain, hello_items, tc_items}

-- what follows from a neighbourhood is renewed at now, but for relays, which are still to be told; those of the event before may be good again
pub record BeginsDerived (settings : RouterSettings) (near : Neighbourhood) (now : ℕ) (quiet : Bool) (old new : Derived) (before : Before) : Type 0 where
  pub rows : (IsTrue quiet × (new.rows ≡ old.rows)) ⊎ ((s : State) → s.settings ≡ settings → s.bases.neighbourhood ≡ near → AreTcRows s new.rows)
  pub ansn : IsAnsnAfter old new
  pub emptied : IsEmptiedAt now old new
  pub others : new ≡ record old { relays = none_told; rows = new.rows; ansn = new.ansn; emptied = new.emptied; last = now }
  pub relays : before.relays ≡ old.relays
  pub stand : IsTrue before.stand → IsTrue quiet

-- at a tick of a router with these settings HELLOs and TCs are due as its lines tell, and are then next due later
pub record TakesDueLines (settings : RouterSettings) (old new : Derived) (before : Before) (lines : EventLines) : Type 0 where
  pub hellos : (was : State) (held : Held) → HasNext was old → held.settings ≡ settings → HellosDue was (router_state held new) (hello_items (router_state held new) lines.hellos)
  pub tcs : (was : State) (held : Held) → HasNext was old → held.settings ≡ settings → TcsDue was (router_state held new) (tc_items (router_state held new) lines.sequence lines.parts)
  pub within : AreWithinRows lines.parts new.rows
  pub before_is : lines.before ≡ before
  pub none : lines.out ≡ []
  pub others : new ≡ record old { next_hello = new.next_hello; next_tc = new.next_tc; sequence = new.sequence }

-- an event at now begins, and this is to be told of it
pub record BeginsEvent (old : State) (now : ℕ) (new : State) (lines : EventLines) : Type 0 where
  pub bases : Bases
  pub follows : Follows old now bases new
  pub sound : IsSoundRouter new
  pub stand : StandAgain new lines.before
  pub lines_are : HasLines new lines
