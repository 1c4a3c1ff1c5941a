-- How an event ends.
use Rattle.mesh_core.proofs.Common.{arith, common_steps, ◌≡◌, ◌⊎◌, ℕ, Bool, false, IsTrue, not, ◌||◌, List, inl, inr, refl, sym, subst, ap, ◌∙◌, Addr4, TcRow, AreTcRows, AreRelays, AreRoutes, Bases, State, IsOriginator, SoundNeighbourhood, SoundTopology, SoundBases, Renews, tables_of, Derived, HasDerived, IsAnsnAfter, IsEmptiedAt, rows_stay, relays_kept, routes_kept, rows_kept, Outdated, EventWants, Quiet, IsBeforeEvent, GivesRelays, GivesRoutes, GivesRows, IsCurrent, KeepsWanted, Held}
use Rattle.mesh_atoms.specs.declared.settings.RouterSettings.{RouterSettings}
use Rattle.mesh_core.proofs.EventLemmas.Wholes.{bases_but, originator_but, rows_but, there_are}

-- what the end of an event has done to what a router had: rows, relays and routes stay, or are made anew
pub record RenewsWanted (wants : EventWants) (old new : Outdated) (quiet : Quiet) (held : Held) (now : ℕ) (was is : Derived) : Type 0 where
  pub near : SoundNeighbourhood held.settings now held.bases.neighbourhood
  pub topology : SoundTopology held.settings now held.bases.topology
  pub last : is.last ≡ now
  pub rows : (IsTrue quiet.near × (is.rows ≡ was.rows)) ⊎ GivesRows held.settings held.bases.neighbourhood is.rows
  pub ansn : IsAnsnAfter was is
  pub emptied : IsEmptiedAt now was is
  pub wants_relays : IsTrue wants.relays → new.relays ≡ false
  pub relays : new.relays ≡ false → (((old.relays || not quiet.near) ≡ false) × (is.relays ≡ was.relays)) ⊎ GivesRelays held.settings held.bases.neighbourhood is.relays
  pub wants_routes : IsTrue wants.routes → new.routes ≡ false
  pub routes : new.routes ≡ false → ((((old.routes || not quiet.near) || not quiet.advertised) ≡ false) × (is.routes ≡ was.routes)) ⊎ GivesRoutes held.settings held.bases is.routes

-- what holds where neither of two does, of which the second is a negation
neither_true : (a b : Bool) → (a || not b) ≡ false → (a ≡ false) × IsTrue b
neither_true a b is = grind (arith, common_steps)

-- an event at now began with the state `before`, and s has the bases that it leaves
module _ (wants : EventWants) (old new : Outdated) (quiet : Quiet) (now : ℕ) (was is : Derived) (before s : State) (last : s.last ≡ now) (has : HasDerived s is)
    (does : RenewsWanted wants old new quiet (record { settings = s.settings; bases = s.bases }) now was is) (begins : IsBeforeEvent old was quiet (record { settings = s.settings; bases = s.bases }) now before) where
  sound_before : SoundBases before.settings before.last before.bases
  sound_before = bases_but before begins.sound

  relays_end : new.relays ≡ false → AreRelays s now
  relays_end current = elim (does.relays current) [
    | inl (not_old, same) ↦
        let (of_old, stays) = neither_true old.relays quiet.near not_old in
        relays_kept before s now sound_before.neighbourhood (tables_of does.near) begins.settings (begins.near stays) (has.relays ∙ same ∙ sym begins.has.relays) (begins.current.relays of_old)
    | inr give ↦ give s now refl refl has.relays does.near
  ]

  routes_end : new.routes ≡ false → (self : Addr4) × AreRoutes s now self
  routes_end current = elim (does.routes current) [
    | inl (not_old, same) ↦
        let (of_near, advertised) = neither_true (old.routes || not quiet.near) quiet.advertised not_old in
        let (of_old, stays) = neither_true old.routes quiet.near of_near in
        let (self, are) = begins.current.routes of_old in (
          self,
          routes_kept before s now self sound_before.neighbourhood (tables_of does.near) sound_before.topology does.topology begins.settings (begins.near stays) (begins.advertised advertised)
              (has.routes ∙ same ∙ sym begins.has.routes) are,
        )
    | inr give ↦ give s now refl refl refl has.routes does.near
  ]

  rows_end : AreTcRows s s.rows
  rows_end = elim does.rows [
    | inl (stays, same) ↦
        rows_kept before s now sound_before.neighbourhood (tables_of does.near) begins.settings (begins.near stays) (has.rows ∙ same ∙ sym begins.has.rows) (rows_but before begins.sound)
    | inr give ↦ subst (λ (rows : List TcRow). AreTcRows s rows) (sym has.rows) (give s refl refl)
  ]

  current_end : IsCurrent new s
  current_end = grind (arith, common_steps, relays_end, routes_end)

  ends_in : KeepsWanted (Renews before now s.bases) wants new s
  ends_in =
      let (self, is_self) = originator_but before begins.sound in
      let near : SoundNeighbourhood s.settings s.last s.bases.neighbourhood = subst (λ (n : ℕ). SoundNeighbourhood s.settings n s.bases.neighbourhood) (sym last) does.near in
      let topology : SoundTopology s.settings s.last s.bases.topology = subst (λ (n : ℕ). SoundTopology s.settings n s.bases.topology) (sym last) does.topology in
      let (relays, routes, are_relays, (origin, are_routes), own_relays, own_routes) = there_are new s self near topology (subst (λ (r : RouterSettings). IsOriginator r self) (sym begins.settings) is_self) current_end in
      let whole : State = record s { relays = relays; routes = routes } in
      record {
        whole = whole;
        leads = record {
          settings = begins.settings;
          bases_are = refl;
          last = last;
          relays = subst (λ (n : ℕ). AreRelays whole n) last are_relays;
          rows = rows_stay s whole (λ o n. (λ h. h, λ h. h)) refl s.rows rows_end;
          ansn = rw (has.rows, has.ansn, begins.has.rows, begins.has.ansn) does.ansn;
          emptied = rw (has.rows, has.emptied, last, begins.has.rows, begins.has.emptied) does.emptied;
          self = origin;
          routes = subst (λ (n : ℕ). AreRoutes whole n origin) last are_routes;
        };
        rest = record { same = refl; relays = λ wanted. own_relays (does.wants_relays wanted); routes = λ wanted. own_routes (does.wants_routes wanted) };
        current = current_end;
      }

-- the same in each state with the bases and settings that the router then holds
pub ends_each : (wants : EventWants) (old new : Outdated) (quiet : Quiet) (held : Held) (now : ℕ) (was is : Derived) → RenewsWanted wants old new quiet held now was is →
    (before s : State) → IsBeforeEvent old was quiet held now before → s.settings ≡ held.settings → s.bases ≡ held.bases → HasDerived s is → KeepsWanted (Renews before now s.bases) wants new s
ends_each wants old new quiet held now was is does before s begins settings bases has =
    let with_settings : RouterSettings → Held = λ r. record { settings = r; bases = held.bases } in
    let with_bases : Bases → Held = λ b. record { settings = s.settings; bases = b } in
    let here : held ≡ record { settings = s.settings; bases = s.bases } = ap with_settings (sym settings) ∙ ap with_bases (sym bases) in
    let (begins_here, does_here) = subst (λ (h : Held). IsBeforeEvent old was quiet h now before × RenewsWanted wants old new quiet h now was is) here (begins, does) in
    ends_in wants old new quiet now was is before s (has.last ∙ does.last) has does_here begins_here
