-- Traces of the network of a scenario, event by event.
use Rattle.mesh_emulate.proofs.Common.{common_steps, ◌≡◌, ℕ, ◌<◌, ◌≤◌, true, List, [], ◌∷◌, ◌++◌, length, get_or, map, Option, Some, None, Result, Ok, Err, refl, sym, ap, ◌∙◌, subst, arith, slice_get, OnOk, Appends, concat, append-nil, length-map, get_or-map, slice_get_within, slice_get-get_or, Scenario, State, Stop, MakesOne, PutsAll, PutsPieces, pieces_more, stops_behind, NetEvent, moves_of, NetState, NetStep, IsOfPackets, IsTraced, IsLastEvent, RunWithPieces, EventsMake}
use Rattle.mesh_texts.specs.machine.packet.Least.{Wrote}
use Rattle.mesh_texts.proofs.TraceSteps.{traces_run}
use Rattle.mesh_texts.specs.Trace.{IsEventText}
use Rattle.mesh_emulate.proofs.EventTexts.{texts_more, joined_trace}

-- a step that the network takes is one whose text can be told
pub last_event : (s : Scenario) (old new : NetState) (event : NetEvent) → old.scenario ≡ s → NetStep old event new → IsOfPackets event →
    IsLastEvent s new event
last_event s old new event same step packets = grind (arith, common_steps, moves_of, slice_get_within)

-- one event more
told_more : (old mid new : NetState) (pieces : List (List ℕ)) (event : NetEvent) (last : List ℕ) → RunWithPieces true old mid pieces →
    NetStep mid event new → IsTraced new event last → RunWithPieces true old new (pieces ++ last ∷ [])
told_more old mid new pieces event last told step is =
    let texts = texts_more old told.events mid new pieces event last told.are_told step is in
    let events = told.events ++ event ∷ [] in
    record { events = events; runs = traces_run old events new (concat (pieces ++ last ∷ [])) (joined_trace old events new (pieces ++ last ∷ []) texts); are_told = texts }

-- the state of the router at a place
pub router_at : {R : Type 0} (state : R → State) (routers : List R) (states : List State) (x : ℕ) (router : R) →
    map state routers ≡ states → x < length states → router ≡ get_or routers x router → slice_get states x ≡ Some (state router)
router_at {R} state routers states x router same within is =
    let count : length (map state routers) ≡ length routers = length-map routers state in
    let size = ap length same in
    let there : slice_get (map state routers) x ≡ Some (get_or (map state routers) x (state router)) = slice_get-get_or (map state routers) x (state router) (omega (arith, within, size)) in
    let value : get_or (map state routers) x (state router) ≡ state router = get_or-map state routers x router (state router) (omega (arith, within, count, size)) ∙ ap state (sym is) in
    subst (λ (l : List State). slice_get l x ≡ Some (state router)) same (there ∙ ap Some value)

-- the text of the event was put
pub text_put : {E : Type 0} (s : Scenario) (net : NetState) (event : NetEvent) (after : State) (old new : List ℕ) (r : Result (Unit {0}) E) →
    IsLastEvent s net event → slice_get net.routers event.router ≡ Some after → old ≡ [] →
    OnOk r (Wrote (IsEventText s event after) old new) → OnOk r (IsTraced net event new)
text_put s net event after old new (Ok u) last at none (text, put, is) =
    let whole : new ≡ text = put ∙ ap (λ (l : List ℕ). l ++ text) none in
    (after, at, subst (IsEventText net.scenario event after) (sym whole) (subst (λ (t : Scenario). IsEventText t event after text) (sym last.scenario) is))
text_put s net event after old new (Err e) last at none put = tt

-- one event's text behind the texts of some first events
module _ (old mid new : NetState) (event : NetEvent) (step : NetStep mid event new) (before : List (List ℕ)) (told : RunWithPieces true old mid before) where
  event_put : (pieces : List (List ℕ)) → MakesOne (λ (u : Unit {0}). IsTraced new event) pieces (Some tt) → RunWithPieces true old new (before ++ pieces)
  event_put pieces (last, is, whole) =
      subst (λ (l : List (List ℕ)). RunWithPieces true old new (before ++ l)) (sym whole) (told_more old mid new before event last told step is)

  event_made : (end : NetState) (pieces : List (List ℕ)) (x : Option (Unit {0})) → MakesOne (λ (u : Unit {0}). IsTraced new event) pieces x →
      EventsMake true old end (before ++ pieces) None
  event_made end pieces (Some u) is = (new, event_put pieces is)
  event_made end pieces None none =
      (mid, subst (RunWithPieces true old mid) (sym (append-nil before) ∙ ap (λ (l : List (List ℕ)). before ++ l) (sym none)) told)

-- a run whose next event isn't told whole
pub event_left : (old mid new end : NetState) (event : NetEvent) (a b c : Option (List ℕ)) (f g h : ℕ) (why : Stop) →
    NetStep mid event new → (before : List (List ℕ)) × RunWithPieces true old mid before × Appends a b (concat before) → f ≤ g →
    PutsPieces (MakesOne (λ (u : Unit {0}). IsTraced new event)) b c g h (Err why) → PutsPieces (EventsMake true old end) a c f h (Err why)
event_left old mid new end event a b c f g h why step (before, told, stands) le left =
    stops_behind (MakesOne (λ (u : Unit {0}). IsTraced new event)) (EventsMake true old end) (λ (x : Option (Unit {0})). None) before a b c f g h why refl stands le left
    (event_made old mid new event step before told end)

-- a run with one event more that is told
pub event_told : (old mid new : NetState) (event : NetEvent) (a b c : Option (List ℕ)) → NetStep mid event new →
    (before : List (List ℕ)) × RunWithPieces true old mid before × Appends a b (concat before) → PutsAll (MakesOne (λ (u : Unit {0}). IsTraced new event)) b c tt →
    (pieces : List (List ℕ)) × RunWithPieces true old new pieces × Appends a c (concat pieces)
event_told old mid new event a b c step (before, told, stands) (pieces, is, follows) =
    (before ++ pieces, event_put old mid new event step before told pieces is, pieces_more a b c before pieces stands follows)
