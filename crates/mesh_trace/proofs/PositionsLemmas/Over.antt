-- Where a run is over no event comes next.
use Rattle.mesh_trace.proofs.Common.{common_steps, ◌≡◌, ℕ, ◌<◌, List, [], ◌∷◌, ◌++◌, Some, subst, arith, All, slice_get, All-head, All-tail, slice_get_within, get_or_from_slice_get, State, due, Delivery, NetState, IsOver, OpensEvent, By_delivery, By_tick, By_last_tick, TracePosition}

-- what holds of all holds behind some
pub all_behind : {A : Type 0} (P : A → Type 0) (xs ys : List A) → All P (xs ++ ys) → All P ys
all_behind P [] ys h = h
all_behind P (x ∷ xs) ys h = all_behind P xs ys (All-tail P x (xs ++ ys) h)

-- what holds of all holds of each
pub all_at : {A : Type 0} (P : A → Type 0) (xs : List A) (i : ℕ) (x : A) → All P xs → slice_get xs i ≡ Some x → P x
all_at P xs i x h at = subst P (get_or_from_slice_get xs i x x at) (h i x (slice_get_within xs i x at))

pub over_opens : (net : NetState) (line : List ℕ) (after : TracePosition) → IsOver net → OpensEvent net line after → ⊥
over_opens net line after over (By_delivery h) =
    let late : net.scenario.end < h.delivery.moment =
    All-head (λ (d : Delivery). net.scenario.end < d.moment) h.delivery h.next.first.behind
    (all_behind (λ (d : Delivery). net.scenario.end < d.moment) h.next.first.before (h.delivery ∷ h.next.first.behind)
    (subst (All (λ (d : Delivery). net.scenario.end < d.moment)) h.next.first.whole over.only.no_frames)) in
    let early = h.next.in_time in
    absurd (omega (arith, late, early))
over_opens net line after over (By_tick x moment next opens) =
    let late : net.scenario.end < due next.first.state = all_at (λ (s : State). net.scenario.end < due s) net.routers x next.first.state over.only.no_ticks next.first.stands in
    let early = next.in_time in
    let is = next.first.is in
    absurd (omega (arith, late, early, is))
over_opens net line after over (By_last_tick only some opens) = grind (arith, common_steps)
