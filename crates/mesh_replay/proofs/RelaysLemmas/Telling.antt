-- The lines of relays: one line, and then all of an event.
use Rattle.mesh_replay.proofs.Common.{common_steps, ◌≡◌, ℕ, ◌<◌, List, [], ◌∷◌, ◌++◌, refl, sym, ◌∙◌, ap, append_assoc, codes, true, false, Option, Some, None, length, ◌+◌, map, subst, arith, slice_get, Addr4, Interface, RouterSettings, State, item_at as stands, length_pushed as longer, name_of_face, face_name, relays_text, flooding_text, routing_relays_line, Reader, NetState, TellsItem, Tells_flooding, Tells_routing, with_flooding, with_routing, Item, Flooding, Routing, with_state, relay_items, IsLineOf, Case, CheckedEvent, Progress, MayBeIn, LeadsPast, IsProgress, MayTell, HasRelays, HasTold, StopsRelays, relays_left, with_flooded, IsNextText, IsStill, TookText, told_text, TakesNext, enumerate_from, drop_all, drop_more, Relays, none_told, each_more, is_nothing, with_relays}
use Rattle.mesh_replay.proofs.FramesLemmas.Items.{item_told, item_not}
use Rattle.mesh_replay.proofs.CheckingLemmas.Telling.{leads_next, leads_not, leads_nowhere, progress_read}
use Rattle.mesh_replay.proofs.CheckingLemmas.Texts.{takes_at}
use Rattle.mesh_replay.proofs.RelaysLemmas.Chosen.{told_apart, told_with}

-- ---- One relay line.

-- the interface, if it is of one, is one of the router's
abbrev pub HasFace : RouterSettings → Option ℕ → Type 0
HasFace r iface = (i : ℕ) → iface ≡ Some i → i < length r.interfaces

-- what is told
abbrev pub item_for : Option ℕ → Item
item_for (Some i) = Flooding i
item_for None = Routing

-- the router after it
abbrev pub with_told : State → Option ℕ → List Addr4 → State
with_told s (Some i) relays = with_flooding s relays
with_told s None relays = with_routing s relays

-- ---- its text

face_text : (faces : List Interface) (i : ℕ) (face : Interface) → slice_get faces i ≡ Some face → face_name faces i ≡ face.name
unfolding face_name
face_text faces i face here = ap name_of_face here

flooding_line_is : (r : RouterSettings) (i : ℕ) (face : Interface) (relays : List Addr4) → slice_get r.interfaces i ≡ Some face → told_text r (Some i) relays ≡ flooding_text r.name face.name relays
flooding_line_is r i face relays here = grind (arith, common_steps, face_text)

routing_line_is : (r : RouterSettings) (relays : List Addr4) → told_text r None relays ≡ routing_relays_line r.name relays
unfolding routing_relays_line
routing_line_is r relays = ap (λ (l : List ℕ). codes "relays " ++ l) (append_assoc r.name (codes " routing") (relays_text relays ++ codes "\n"))

-- ---- the line tells it, and tells such relays alone

tells_relays : (net : NetState) (x : ℕ) (s : State) (iface : Option ℕ) (relays : List Addr4) (line : List ℕ) → HasFace s.settings iface → MayTell s iface relays →
    IsLineOf line (told_text s.settings iface relays) → TellsItem net x s line (item_for iface) (with_state net x (with_told s iface relays)) []
tells_relays net x s (Some i) relays line has may text =
    let (face, here) = stands s.settings.interfaces i (has i refl) in
    Tells_flooding face relays may.graph here may.is_graph may.are (text ∙ flooding_line_is s.settings i face relays here)
tells_relays net x s None relays line has may text = Tells_routing relays may.graph may.is_graph may.are (text ∙ routing_line_is s.settings relays)

record ToldBy (s : State) (iface : Option ℕ) (line : List ℕ) : Type 0 where
  relays : List Addr4
  may : MayTell s iface relays
  text : IsLineOf line (told_text s.settings iface relays)

told_by : (net : NetState) (x : ℕ) (s : State) (iface : Option ℕ) (line : List ℕ) (new : NetState) (more : List Item) → TellsItem net x s line (item_for iface) new more → ToldBy s iface line
told_by net x s iface line new more h7 = grind (arith, common_steps, flooding_line_is, routing_line_is)

text_is : {event : CheckedEvent} {s : State} → MayBeIn event s → (iface : Option ℕ) (relays : List Addr4) → told_text event.settings.now iface relays ≡ told_text s.settings iface relays
text_is is_in iface relays = ap (λ (r : RouterSettings). told_text r iface relays) (sym is_in.settings)

-- it was taken
pub relays_told : {case : Case} {old : Progress} {reader : Reader} {event : CheckedEvent} {s : State} → MayBeIn event s → (iface : Option ℕ) (relays : List Addr4) → HasFace s.settings iface → MayTell s iface relays →
    TookText case.trace.now old.reader reader (told_text event.settings.now iface relays) → LeadsPast case old (record old { reader = reader }) event.router s (with_told s iface relays) (item_for iface ∷ []) [] true
relays_told {event = event} {s = s} is_in iface relays has may took =
    item_told took (λ net line at is. tells_relays net event.router s iface relays line has may (is ∙ text_is is_in iface relays))

-- the next line is none
pub relays_not : {case : Case} {old new : Progress} {event : CheckedEvent} {s : State} → MayBeIn event s → (iface : Option ℕ) (left : List Item) → IsStill old.reader new.reader →
    ((relays : List Addr4) → MayTell s iface relays → IsNextText case.trace.now old.reader (told_text event.settings.now iface relays) → ⊥) →
    LeadsPast case old new event.router s s (item_for iface ∷ []) left false
relays_not {event = event} {s = s} is_in iface left still none = item_not still (λ net after line lines more at there tells. (let told = told_by net event.router s iface line after more tells in
    none told.relays told.may (record { line = line; lines = lines; next = there; is = told.text ∙ sym (text_is is_in iface told.relays) })))

-- ---- The lines of the flooding relays, one after the other, and that of the routing relays.

-- ---- what is left

left_more : (r : RouterSettings) (n : ℕ) → n < length r.interfaces → relays_left r n ≡ Flooding n ∷ relays_left r (n + 1)
left_more r n inside =
    let (face, here) = stands r.interfaces n inside in
    ap (λ (l : List Interface). map (λ f. Flooding f.0) (enumerate_from n l) ++ (Routing ∷ [])) (drop_more r.interfaces n face inside)

left_last : (r : RouterSettings) (n : ℕ) → n ≡ length r.interfaces → relays_left r n ≡ Routing ∷ []
left_last r n all = ap (λ (l : List Interface). map (λ f. Flooding f.0) (enumerate_from n l) ++ (Routing ∷ [])) (drop_all n r.interfaces (omega (arith, all)))

-- ---- none was told yet

pub told_nothing : {case : Case} {progress : Progress} {x : ℕ} {s : State} → s.relays ≡ none_told → IsProgress case progress → (told : List (List Addr4)) → told ≡ [] → HasTold case progress progress x s 0 told
told_nothing {case} {progress} {x} {s} none is told nothing = subst (HasTold case progress progress x s 0) (sym nothing) (record {
  progress = is;
  count = refl;
  chosen = λ i relays here. absurd cc;
  leads = subst (λ (r : Relays). LeadsPast case progress progress x s (with_relays s r) (relay_items s.settings) (relays_left s.settings 0) true) none leads_nowhere;
})

-- the router of which these were told
flooded : {event : CheckedEvent} {s : State} → MayBeIn event s → (told : List (List Addr4)) → MayBeIn event (with_flooded s told)
flooded is_in told = record { settings = is_in.settings; last = is_in.last }

module _ {case : Case} {start here : Progress} {reader : Reader} {event : CheckedEvent} {s : State} {n : ℕ} {told : List (List Addr4)} {next : Option (List Addr4)} (is_in : MayBeIn event s) (so : HasTold case start here event.router s n told) where
  -- ---- the relays of one interface more

  module _ (inside : n < length s.settings.interfaces) (takes : TakesNext (MayTell s (Some n)) (told_text event.settings.now (Some n)) case.trace.now here.reader reader next) where
    pub told_more : {relays : List Addr4} {new : List (List Addr4)} → next ≡ Some relays → new ≡ told ++ relays ∷ [] → HasTold case start (record here { reader = reader }) event.router s (n + 1) new
    told_more {relays} is is_new =
        let (may, took) = takes_at takes is in
        subst (HasTold case start (record here { reader = reader }) event.router s (n + 1)) (sym is_new) (record {
          progress = progress_read so.progress takes.reading;
          count = longer n told relays so.count;
          chosen = each_more (λ (i : ℕ) (list : List Addr4). MayTell s (Some i) list) told relays so.chosen (subst (λ (i : ℕ). MayTell s (Some i) relays) (sym so.count) may);
          leads = leads_next so.leads (left_more s.settings n inside)
              (relays_told (flooded is_in told) (Some n) relays (λ i is. let same : n ≡ i = cc in omega (arith, same, inside)) (told_with s (record { flooding = told; routing = [] }) (Some n) relays may) took);
        })

    -- its line doesn't fit
    pub stops_flooding : next ≡ None → StopsRelays case start (record here { reader = reader }) event.router s
    stops_flooding is = record {
      progress = progress_read so.progress takes.reading;
      stops = leads_not (leads_next so.leads (left_more s.settings n inside) (relays_not (flooded is_in told) (Some n) [] (takes.still (is_nothing next is))
          (λ relays may. takes.none (is_nothing next is) relays (told_apart s (record { flooding = told; routing = [] }) (Some n) relays may)))) refl;
    }

  -- ---- and then for routing

  module _ (all : n ≡ length s.settings.interfaces) (takes : TakesNext (MayTell s None) (told_text event.settings.now None) case.trace.now here.reader reader next) where
    pub told_all : {relays : List Addr4} → next ≡ Some relays → HasRelays case start (record here { reader = reader }) event.router s (record { flooding = told; routing = relays })
    told_all {relays} is =
        let (may, took) = takes_at takes is in
        record {
          progress = progress_read so.progress takes.reading;
          chosen = record {
            interfaces = so.count ∙ all;
            flooding = λ i list stands. let flooding = so.chosen i list stands in
                (flooding.graph, record { near = flooding.is_graph.near; direct = flooding.is_graph.direct; far = flooding.is_graph.far }, flooding.are);
            routing = (may.graph, record { near = may.is_graph.near; direct = may.is_graph.direct; far = may.is_graph.far }, may.are);
          };
          leads = leads_next so.leads (left_last s.settings n all)
              (relays_told (flooded is_in told) None relays (λ i is. absurd cc) (told_with s (record { flooding = told; routing = [] }) None relays may) took);
        }

    pub stops_routing : next ≡ None → StopsRelays case start (record here { reader = reader }) event.router s
    stops_routing is = record {
      progress = progress_read so.progress takes.reading;
      stops = leads_not (leads_next so.leads (left_last s.settings n all) (relays_not (flooded is_in told) None [] (takes.still (is_nothing next is))
          (λ relays may. takes.none (is_nothing next is) relays (told_apart s (record { flooding = told; routing = [] }) None relays may)))) refl;
    }
