-- Wherever lines lead, the bases of each router are sound.
use Rattle.mesh_trace.proofs.Common.{◌≡◌, ℕ, ◌<◌, List, [], ◌∷◌, length, Some, inl, inr, sym, subst, arith, slice_get, slice_set, slice_get_within, Bases, State, Scenario, Arrival, Frame, SoundBases, opening_sound, bases_of, live_bases_sound, messages_sound, set_at, NetState, Follows, TakesPacket, TicksBy, HearsBy, Refused, Taken, TellsItem, Tells_flooding, Tells_routing, Tells_hello, Tells_tc, Tells_frame, Tells_loss, TellsFrame, PositionsAreSound, OpensEvent, By_delivery, By_tick, By_last_tick, Item, TracePosition, IsFirstPosition, LineLeads, To_event, To_item, LeadsBy, item_at as stands}

-- the bases of a router are sound
abbrev pub SoundState : State → Type 0
SoundState s = SoundBases s.settings s.last s.bases

-- so are those of each router
abbrev pub AreSound : List State → Type 0
AreSound routers = (x : ℕ) (s : State) → slice_get routers x ≡ Some s → SoundState s

-- ---- one router

by_event : (old : State) (now : ℕ) (bases : Bases) (new : State) → SoundBases old.settings now bases → Follows old now bases new → SoundState new
by_event old now bases new sound follows = rw (follows.settings, follows.last, follows.bases_are) sound

pub takes_sound : (old : State) (arrival : Arrival) (bytes : List ℕ) (sent : List Frame) (new : State) → SoundState old → TakesPacket old arrival bytes sent new → SoundState new
takes_sound old arrival bytes sent new before t =
    by_event old arrival.now t.bases new
    (messages_sound old.settings t.own arrival bytes t.live t.packet.messages t.spans t.bases sent t.fates t.is_own
    (live_bases_sound old.settings old.last arrival.now old.bases t.live before t.is_live) t.takes) t.follows

pub hears_sound : (old : State) (arrival : Arrival) (bytes : List ℕ) (new : State) (left : List Item) → SoundState old → HearsBy old arrival bytes new left → SoundState new
hears_sound old arrival bytes new left before (Refused place reason fault) = before
hears_sound old arrival bytes new left before (Taken {sent} takes) = takes_sound old arrival bytes sent new before takes

pub ticks_sound : (old : State) (now : ℕ) (new : State) (left : List Item) → SoundState old → TicksBy old now new left → SoundState new
ticks_sound old now new left before t = by_event old now t.live new (live_bases_sound old.settings old.last now old.bases t.live before t.is_live) t.follows

-- ---- all routers

pub set_sound : (routers : List State) (x : ℕ) (new : State) → AreSound routers → SoundState new → AreSound (slice_set routers x new)
set_sound routers x new sound is y s at = elim (set_at routers x new y s at) [
  | inl (here, same) ↦ subst SoundState (sym same) is
  | inr (there, stood) ↦ sound y s stood
]

opens_sound : (old : NetState) (line : List ℕ) (new : TracePosition) → AreSound old.routers → OpensEvent old line new → AreSound new.net.routers
opens_sound old line new sound (By_delivery h) =
    subst (λ (p : TracePosition). AreSound p.net.routers) (sym h.leads)
    (set_sound old.routers h.arc.to h.is sound (hears_sound h.was _ h.delivery.frame h.is h.left (sound h.arc.to h.was h.stands) h.hears))
opens_sound old line new sound (By_tick x moment next h) =
    subst (λ (p : TracePosition). AreSound p.net.routers) (sym h.leads)
    (set_sound old.routers x h.is sound (ticks_sound h.was moment h.is h.left (sound x h.was h.stands) h.ticks))
opens_sound old line new sound (By_last_tick only some h) =
    subst (λ (p : TracePosition). AreSound p.net.routers) (sym h.leads)
    (set_sound old.routers old.last_ticks h.is sound (ticks_sound h.was old.scenario.end h.is h.left (sound old.last_ticks h.was h.stands) h.ticks))

frame_sound : (net : NetState) (x : ℕ) (s : State) (frame : Frame) (line : List ℕ) (new : NetState) (losses : List Item) → AreSound net.routers → TellsFrame net x s frame line new losses → AreSound new.routers
frame_sound net x s frame line new losses sound tells = subst (λ (n : NetState). AreSound n.routers) (sym tells.leads) sound

tells_sound : (net : NetState) (x : ℕ) (s : State) (line : List ℕ) (item : Item) (new : NetState) (more : List Item) → slice_get net.routers x ≡ Some s → AreSound net.routers →
    TellsItem net x s line item new more → AreSound new.routers
tells_sound net x s line item new more stands sound (Tells_flooding face relays g at graph are is) = set_sound net.routers x _ sound (sound x s stands)
tells_sound net x s line item new more stands sound (Tells_routing relays g graph are is) = set_sound net.routers x _ sound (sound x s stands)
tells_sound net x s line item new more stands sound (Tells_hello frame is tells) = frame_sound net x s _ line new _ sound tells
tells_sound net x s line item new more stands sound (Tells_tc first further are tells) = frame_sound net x s _ line new _ sound tells
tells_sound net x s line item new more stands sound (Tells_frame tells) = frame_sound net x s _ line new _ sound tells
tells_sound net x s line item new more stands sound (Tells_loss is) = sound

pub leads_sound : (old : TracePosition) (line : List ℕ) (new : TracePosition) → AreSound old.net.routers → LineLeads old line new → AreSound new.net.routers
leads_sound old line new sound (To_event none opens) = opens_sound old.net line new sound opens
leads_sound old line new sound (To_item {s} {item} {rest} {more} {net} left stands tells leads) =
    subst (λ (p : TracePosition). AreSound p.net.routers) (sym leads) (tells_sound old.net old.router s line item net more stands sound tells)

pub leads_by_sound : (old : TracePosition) (lines : List (List ℕ)) (new : TracePosition) → AreSound old.net.routers → LeadsBy old lines new → AreSound new.net.routers
leads_by_sound old [] new sound same = subst (λ (p : TracePosition). AreSound p.net.routers) (sym same) sound
leads_by_sound old (line ∷ lines) new sound (mid, one, more) = leads_by_sound mid lines new (leads_sound old line mid sound one) more

-- ---- from the first

pub first_sound : (s : Scenario) (p : TracePosition) → IsFirstPosition s p → AreSound p.net.routers
first_sound s p first x state at =
    let below : x < length s.routers = let h = slice_get_within p.net.routers x state at in let k = first.opening.count in omega (arith, h, k) in
    let (settings, there) = stands s.routers x below in
    bases_of state (opening_sound settings state (first.opening.opening x settings state there at))

pub positions_are_sound : PositionsAreSound
positions_are_sound s lines p (first, is, leads) = record { sound = leads_by_sound first lines p (first_sound s first is) leads }
