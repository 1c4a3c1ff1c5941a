-- A state of which relays and routes are outdated is one with some relays and routes but for those.
use Rattle.mesh_core.proofs.Common.{◌≡◌, Bool, true, false, List, refl, subst, true≢false, Addr4, Route, Relays, AreTcRows, AreRelays, AreRoutes, Sound, SoundNeighbourhood, SoundTopology, State, IsOriginator, SoundBases, bases_of, tables_of, rows_stay, relays_kept, routes_kept, Outdated, IsButForDerived, IsSoundButForDerived, IsCurrent}
use Rattle.mesh_routes.proofs.Existing.{routes_exist}
use Rattle.mesh_bases.proofs.Existing.{relays_exist}
use Rattle.mesh_bases.proofs.HeldLemmas.Quiet.{advertised_equal, near_equal}

-- What is sound but for relays and routes

pub bases_but : (rest : State) → IsSoundButForDerived rest → SoundBases rest.settings rest.last rest.bases
bases_but rest (whole, sound, same) = subst (λ (s : State). SoundBases s.settings s.last s.bases) same (bases_of whole sound)

pub rows_but : (rest : State) → IsSoundButForDerived rest → AreTcRows rest rest.rows
rows_but rest (whole, sound, same) =
    let other : State = record rest { relays = whole.relays; routes = whole.routes } in
    rows_stay other rest (λ o n. (λ h. h, λ h. h)) refl rest.rows (subst (λ (s : State). AreTcRows s s.rows) same sound.rows)

pub originator_but : (rest : State) → IsSoundButForDerived rest → (self : Addr4) × IsOriginator rest.settings self
originator_but rest (whole, sound, same) = (sound.self, subst (λ (s : State). IsOriginator s.settings sound.self) same sound.routes.is_self)

-- what is kept of a state that is sound but for relays and routes is so too
pub but_through : (whole rest : State) → IsSoundButForDerived whole → IsButForDerived whole rest → IsSoundButForDerived rest
but_through whole rest (other, sound, same) kept = (other, sound, subst (λ (s : State). other ≡ record s { relays = other.relays; routes = other.routes }) kept same)

-- a sound state is so with its own relays and routes, which are those of its bases
pub sound_but : (s : State) → Sound s → IsSoundButForDerived s
sound_but s sound = (s, sound, refl)

pub current_of : (outdated : Outdated) (s : State) → Sound s → IsCurrent outdated s
current_of outdated s sound = record { relays = λ current. sound.relays; routes = λ current. (sound.self, sound.routes) }

pub whole_but : (outdated : Outdated) (s : State) → Sound s → IsSoundButForDerived s × IsCurrent outdated s
whole_but outdated s sound = (sound_but s sound, current_of outdated s sound)

-- Relays and routes that there are

-- its own relays where they aren't outdated
some_relays : (outdated : Bool) (s : State) → SoundNeighbourhood s.settings s.last s.bases.neighbourhood → (outdated ≡ false → AreRelays s s.last) →
    (relays : Relays) × AreRelays (record s { relays = relays }) s.last × (outdated ≡ false → relays ≡ s.relays)
some_relays true s sound current = let (relays, are) = relays_exist s s.last sound in (relays, are, λ not. absurd (true≢false not))
some_relays false s sound current = (s.relays, current refl, λ is. refl)

-- its own routes where they aren't outdated
some_routes : (outdated : Bool) (s : State) (self : Addr4) → SoundNeighbourhood s.settings s.last s.bases.neighbourhood → SoundTopology s.settings s.last s.bases.topology → IsOriginator s.settings self → (outdated ≡ false → (self : Addr4) × AreRoutes s s.last self) →
    (routes : List Route) × ((self : Addr4) × AreRoutes (record s { routes = routes }) s.last self) × (outdated ≡ false → routes ≡ s.routes)
some_routes true s self near topology is_self current =
    let (routes, are) = routes_exist s s.last self near topology is_self in (routes, (self, are), λ not. absurd (true≢false not))
some_routes false s self near topology is_self current = (s.routes, current refl, λ is. refl)

pub there_are : (outdated : Outdated) (s : State) (self : Addr4) → SoundNeighbourhood s.settings s.last s.bases.neighbourhood → SoundTopology s.settings s.last s.bases.topology → IsOriginator s.settings self → IsCurrent outdated s →
    (relays : Relays) × (routes : List Route) × AreRelays (record s { relays = relays; routes = routes }) s.last × ((self : Addr4) × AreRoutes (record s { relays = relays; routes = routes }) s.last self) ×
    (outdated.relays ≡ false → relays ≡ s.relays) × (outdated.routes ≡ false → routes ≡ s.routes)
there_are outdated s self near topology is_self current =
    let (relays, are_relays, own_relays) = some_relays outdated.relays s near current.relays in
    let (routes, (origin, are_routes), own_routes) = some_routes outdated.routes s self near topology is_self current.routes in
    let whole : State = record s { relays = relays; routes = routes } in
    let same = near_equal s.bases.neighbourhood s.bases.neighbourhood s.last refl in (
      relays,
      routes,
      relays_kept (record s { relays = relays }) whole s.last near (tables_of near) refl same refl are_relays,
      (
        origin,
        routes_kept (record s { routes = routes }) whole s.last origin near (tables_of near) topology topology refl same
            (advertised_equal s.bases.topology s.bases.topology refl) refl are_routes,
      ),
      own_relays,
      own_routes,
    )
