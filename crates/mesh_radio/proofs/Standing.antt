-- The routers of a scenario at a moment.
use Rattle.mesh_radio.proofs.Common.{◌≡◌, ℕ, ◌<◌, ◌≤◌, List, refl, subst, length, get_or, All, Some, slice_get, slice_get_within, slice_get_read, State, RadioArc, RouterSettings, Scenario, Frame, Event, IsSendable, AreRouterStates, Stepped, same_at, item_at as stands}
use Rattle.mesh_machine.specs.Ways.{EntersInterface}

pub router_at : (s : Scenario) (now : ℕ) (routers : List State) (x : ℕ) → AreRouterStates s now routers → x < length s.routers → (was : State) × (slice_get routers x ≡ Some was) × (was.last ≤ now)
router_at s now routers x h lt = let there = stands routers x (rw h.count lt) in (there.0, there.1, h.lasts x there.0 there.1)

-- the router to which an arc leads
pub router_to : (s : Scenario) (now : ℕ) (routers : List State) (arc : RadioArc) → AreRouterStates s now routers → EntersInterface s.routers arc →
    (was : State) × (slice_get routers arc.to ≡ Some was) × (was.last ≤ now) × (arc.to_iface < length was.settings.interfaces)
router_to s now routers arc h to =
    let below : arc.to < length s.routers = slice_get_within s.routers arc.to to.router to.stands in
    let there = stands routers arc.to (rw h.count below) in
    let same : to.router ≡ there.0.settings = same_at s.routers arc.to to.router there.0.settings to.stands (h.settings arc.to there.0 there.1) in
    (there.0, there.1, h.lasts arc.to there.0 there.1, subst (λ (r : RouterSettings). arc.to_iface < length r.interfaces) same to.iface)

-- what a router sent goes out by its own interfaces
pub may_send : {until now x : ℕ} {old new : List State} {event : Event} {frames : List Frame} {Change : State → State → Type 0} (s : Scenario) (earlier : ℕ) → AreRouterStates s earlier old → (step : Stepped until old new x now event frames Change) →
    (settings : RouterSettings) × (slice_get s.routers x ≡ Some settings) × All (IsSendable settings) frames
may_send {x} s earlier h step = (step.was.settings, h.settings x step.was step.stood, step.sendable)

-- the item of an index
pub item_at : {A : Type 0} (xs ys : List A) (i : ℕ) (x : A) → ys ≡ xs → i < length xs → x ≡ get_or ys i x → slice_get xs i ≡ Some x
item_at {A = A} xs ys i x same lt is = slice_get_read xs (length xs) i x refl lt (subst (λ (l : List A). x ≡ get_or l i x) same is)
