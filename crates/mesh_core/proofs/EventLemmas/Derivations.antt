-- What a router has before an event, at its end and after a tick.
use Rattle.mesh_core.proofs.Common.{arith, common_steps, ◌≡◌, ℕ, IsTrue, refl, subst, AreTcRows, State, EventWants, Outdated, Quiet, IsButForDerived, IsSoundButForDerived, IsBeforeEvent, router_state, IsCurrent, KeepsWanted, Held, Renews, Derived, HasDerived, rows_stay}
use Rattle.mesh_bases.specs.Sending.Sent.{HasRowsOf}
use Rattle.mesh_nbrs.specs.Same.{SameNear}
use Rattle.mesh_topo.specs.Same.{SameAdvertised}

-- a state has what it is made of
pub has_own : (held : Held) (derived : Derived) → HasDerived (router_state held derived) derived
has_own held derived = record { relays = refl; routes = refl; rows = refl; ansn = refl; emptied = refl; last = refl }

-- the state before an event
pub before_event : (old new : Held) (derived : Derived) (outdated : Outdated) (quiet : Quiet) (now : ℕ) → IsSoundButForDerived (router_state old derived) → IsCurrent outdated (router_state old derived) →
    new.settings ≡ old.settings → (IsTrue quiet.near → SameNear old.bases.neighbourhood derived.last new.bases.neighbourhood now) → (IsTrue quiet.advertised → SameAdvertised old.bases.topology new.bases.topology) →
    IsBeforeEvent outdated derived quiet new now (router_state old derived)
before_event old new derived outdated quiet now sound current settings near advertised = grind (arith, common_steps, has_own)

-- the rows at the end of an event
pub rows_at_end : (before : State) (now : ℕ) (wants : EventWants) (outdated : Outdated) (s : State) → KeepsWanted (Renews before now s.bases) wants outdated s → AreTcRows s s.rows
rows_at_end before now wants outdated s ends =
    let other : State = record s { relays = ends.whole.relays; routes = ends.whole.routes } in
    rows_stay other s (λ o n. (λ h. h, λ h. h)) refl s.rows (subst (λ (w : State). AreTcRows w w.rows) ends.rest.same ends.leads.rows)

-- what a tick sends changes only the moments and the number of the next HELLO and TC
pub derived_after : (held : Held) (closed hellos tc : Derived) → hellos ≡ record closed { next_hello = hellos.next_hello } → tc ≡ record hellos { next_tc = tc.next_tc; sequence = tc.sequence } →
    HasDerived (router_state held tc) closed
derived_after held closed hellos tc one two = grind (arith, common_steps)

-- the rows of a state are those of what is kept of it
pub rows_but_for : (held : Held) (derived : Derived) (whole : State) → IsButForDerived whole (router_state held derived) → HasRowsOf whole derived
rows_but_for held derived whole same = grind (arith, common_steps)
