-- The text of a run as lines: those of its trace, the counts, each router's section, and what is said of the gap.
use Rattle.mesh_texts.proofs.Common.{◌≡◌, ℕ, ◌+◌, ◌<◌, Bool, List, [], ◌∷◌, ◌++◌, length, map, Option, Some, None, refl, sym, ap, ◌∙◌, subst, arith, append_assoc, codes, length-append, slice_get, common_steps, AllByRecursion as Each, flat_map, enumerate_from, append-nil, recursion_from_All, flat_map-map, Addr4, Interface, RadioArc, RouterSettings, Scenario, State, NetEvent, NetState, Gap, face_name, router_line, link_line, neighbour_line, held_line, flooding_line, routing_line, row_line, AreAllLinkLines, ways_text, IsSection, AreSections, event_line, flooding_relays_line, relays_lines, lost_line, sent_line, sent_lines, event_text, counts_line, gap_line, settled_text, Traces, WholeRun, IsTrace, IsRunText, IsLine, BeginsWith, IsPlain, ArePlain}
use Rattle.mesh_atoms.specs.declared.network.Emission.{Emission}
use Rattle.mesh_texts.specs.Trace.{happened_line, arc_line, IsEventText}
use Rattle.mesh_texts.proofs.LineLists.{flat, flat_both, each_both, each_map, each_weaker}
use Rattle.mesh_texts.proofs.LineTexts.{IsNeither, plain_neither, router_no_settled, row_no_settled, link_plain, neighbour_plain, held_plain, flooding_plain, routing_plain, tick_plain, heard_plain, flooding_relays_plain, routing_relays_plain, sent_plain, loss_plain, counts_plain, gap_plain, settled_neither, unsettled_plain, router_is_line, row_is_line}

-- Texts of plain lines

-- a text that is lines which are neither headings nor routes, nor `settled yes`
pub record Plain (text : List ℕ) : Type 0 where
  pub lines : List (List ℕ)
  pub each : Each IsPlain lines
  pub whole : text ≡ flat lines

pub plain_none : Plain []
plain_none = record { lines = []; each = tt; whole = refl }

pub plain_one : (l : List ℕ) → IsPlain l → Plain l
plain_one l is = record { lines = l ∷ []; each = (is, tt); whole = sym (append-nil l) }

pub plain_both : (a b : List ℕ) → Plain a → Plain b → Plain (a ++ b)
plain_both a b p q = grind (arith, common_steps, each_both, flat_both)

pub plain_is : (a b : List ℕ) → a ≡ b → Plain b → Plain a
plain_is a b e p = record { lines = p.lines; each = p.each; whole = e ∙ p.whole }

plain_each : {A : Type 0} (f : A → List ℕ) → ((x : A) → Plain (f x)) → (xs : List A) → Plain (flat_map f xs)
plain_each f h [] = plain_none
plain_each f h (x ∷ xs) = plain_both (f x) (flat_map f xs) (h x) (plain_each f h xs)

-- The trace

happened_plain : (moment : ℕ) (r : RouterSettings) (heard : Option (ℕ × Addr4 × List ℕ)) → Plain (happened_line moment r heard)
happened_plain moment r heard = grind (arith, common_steps, plain_one, tick_plain, heard_plain)

event_line_plain : (event : NetEvent) (r : RouterSettings) → Plain (event_line event r)
unfolding event_line
event_line_plain event r = happened_plain event.moment r event.heard

relays_plain : (s : State) → Plain (relays_lines s)
unfolding relays_lines
relays_plain s = plain_both _ _
    (plain_each (flooding_relays_line s.settings.name s.relays.flooding) (λ f. plain_one _ (flooding_relays_plain s.settings s.relays.flooding f)) (enumerate_from 0 s.settings.interfaces))
    (plain_one _ (routing_relays_plain s.settings s.relays.routing))

arc_plain : (routers : List RouterSettings) (moment : ℕ) (arc : Option RadioArc) → Plain (arc_line routers moment arc)
arc_plain routers moment arc = grind (arith, common_steps, plain_none, plain_one, loss_plain)

lost_plain : (s : Scenario) (moment arc : ℕ) → Plain (lost_line s moment arc)
unfolding lost_line
lost_plain s moment arc = arc_plain s.routers moment (slice_get s.arcs arc)

sending_plain : (s : Scenario) (moment : ℕ) (r : RouterSettings) (sent : Emission) → Plain (sent_lines s moment r sent)
unfolding sent_lines
sending_plain s moment r sent = plain_both (sent_line moment r.name (face_name r.interfaces sent.iface) sent.frame) (flat_map (lost_line s moment) sent.lost)
    (plain_one _ (sent_plain moment r sent.iface sent.frame)) (plain_each (lost_line s moment) (lost_plain s moment) sent.lost)

event_plain : (s : Scenario) (event : NetEvent) (after : State) → Plain (event_text s event after)
unfolding event_text
event_plain s event after = grind (arith, common_steps, plain_both, event_line_plain, relays_plain, plain_each, sending_plain)

told_plain : (s : Scenario) (event : NetEvent) (after : State) (text : List ℕ) → IsEventText s event after text → Plain text
told_plain s event after text h4 = grind (arith, common_steps, plain_is, event_plain, event_line_plain)

traces_plain : (old : NetState) (events : List NetEvent) (new : NetState) (text : List ℕ) → Traces old events new text → Plain text
traces_plain old [] new text t = plain_is text [] t.1 plain_none
traces_plain old (event ∷ events) new text (mid, step, first, rest, traced, more, e) =
    plain_is text (first ++ rest) e (plain_both first rest (told_plain mid.scenario event traced.0 first traced.2) (traces_plain mid events new rest more))

trace_plain : (trace : Bool) (s : Scenario) (run : WholeRun s) (text : List ℕ) → IsTrace trace run text → Plain text
trace_plain trace s run text e = grind (arith, common_steps, plain_is, plain_none, traces_plain)

-- what is said of the gap
pub record Neither (text : List ℕ) : Type 0 where
  pub lines : List (List ℕ)
  pub each : Each IsNeither lines
  pub whole : text ≡ flat lines

pub gap_is_plain : (s : Scenario) (gap : Gap) → Plain (settled_text s (Some gap))
unfolding settled_text
gap_is_plain s gap = plain_both (codes "settled no\n") (gap_line s gap) (plain_one _ unsettled_plain) (plain_one _ (gap_plain s gap))

pub settled_lines : (s : Scenario) (gap : Option Gap) → Neither (settled_text s gap)
unfolding settled_text
settled_lines s None = record { lines = codes "settled yes\n" ∷ []; each = (settled_neither, tt); whole = refl }
settled_lines s (Some gap) =
    let told = gap_is_plain s gap in
    record { lines = told.lines; each = each_weaker IsPlain IsNeither plain_neither told.lines told.each; whole = told.whole }

-- Sections

links_plain : (s : State) (i : ℕ) (faces : List Interface) (text : List ℕ) → AreAllLinkLines s i faces text → Plain text
links_plain s i [] text e = plain_is text [] e plain_none
links_plain s i (face ∷ more) text (first, rest, (tuples, are, is), others, e) =
    plain_is text (first ++ rest) e (plain_both first rest
    (plain_is first (flat_map (link_line s.last face.name) tuples) is (plain_each (link_line s.last face.name) (λ t. plain_one _ (link_plain s.last face t)) tuples))
    (links_plain s (i + 1) more rest others))

-- the lines of a section: the heading, plain lines, and the routes
pub record SectionLines (s : State) (text : List ℕ) : Type 0 where
  pub originator : Addr4
  pub others : List (List ℕ)
  pub plain : Each IsPlain others
  pub whole : text ≡ router_line s.settings.name originator ++ flat others ++ flat (map (row_line s.settings.interfaces) s.routes)

pub section_lines : (s : State) (text : List ℕ) → IsSection s text → SectionLines s text
unfolding ways_text
section_lines s text is =
    let faces = s.settings.interfaces in
    let flooding = flat_map (flooding_line s.relays.flooding) (enumerate_from 0 faces) in
    let relays = flooding ++ routing_line s.relays.routing in
    let routes = flat_map (row_line faces) s.routes in
    let near = is.are_neighbours in
    let neighbours : Plain is.neighbours = plain_is is.neighbours (flat_map neighbour_line near.0) near.2 (plain_each neighbour_line (λ t. plain_one _ (neighbour_plain t)) near.0) in
    let ways : Plain (held_line s.bases ++ relays) = plain_both (held_line s.bases) relays (plain_one _ (held_plain s.bases))
    (plain_both flooding (routing_line s.relays.routing) (plain_each (flooding_line s.relays.flooding) (λ f. plain_one _ (flooding_plain s.relays.flooding f)) (enumerate_from 0 faces)) (plain_one _ (routing_plain s.relays.routing))) in
    let near_ways = (is.links ++ is.neighbours) ++ (held_line s.bases ++ relays) in
    let all : Plain near_ways = plain_both (is.links ++ is.neighbours) (held_line s.bases ++ relays) (plain_both is.links is.neighbours (links_plain s 0 faces is.links is.are_links) neighbours) ways in
    let heading = router_line s.settings.name is.originator in
    record {
      originator = is.originator;
      others = all.lines;
      plain = all.each;
      whole = is.whole ∙ sym (append_assoc (heading ++ is.links ++ is.neighbours) (held_line s.bases ++ relays) routes)
          ∙ ap (λ (t : List ℕ). t ++ routes) (
          ap (λ (t : List ℕ). t ++ (held_line s.bases ++ relays)) (append_assoc heading is.links is.neighbours)
          ∙ append_assoc heading (is.links ++ is.neighbours) (held_line s.bases ++ relays)
          ∙ ap (λ (t : List ℕ). heading ++ t) all.whole)
          ∙ ap (λ (t : List ℕ). heading ++ flat all.lines ++ t) (sym (flat_map-map (λ (l : List ℕ). l) (row_line faces) s.routes));
    }

-- the lines of the sections of routers
abbrev pub AreSectionLines : List State → List (List ℕ) → Type 0
AreSectionLines [] lines = lines ≡ []
AreSectionLines (s ∷ more) lines =
    (originator : Addr4) × (others : List (List ℕ)) × (rest : List (List ℕ)) × Each IsPlain others × AreSectionLines more rest
    × (lines ≡ router_line s.settings.name originator ∷ (others ++ (map (row_line s.settings.interfaces) s.routes ++ rest)))

pub sections_lines : (states : List State) (text : List ℕ) → AreSections states text →
    (lines : List (List ℕ)) × AreSectionLines states lines × (text ≡ flat lines)
sections_lines [] text e = ([], refl, e)
sections_lines (s ∷ more) text (first, rest, is, are, e) =
    let here = section_lines s first is in
    let there = sections_lines more rest are in
    let heading = router_line s.settings.name here.originator in
    let rows = map (row_line s.settings.interfaces) s.routes in (
      heading ∷ (here.others ++ (rows ++ there.0)),
      (here.originator, here.others, there.0, here.plain, there.1, refl),
      e ∙ ap (λ (t : List ℕ). t ++ rest) here.whole ∙ ap (λ (t : List ℕ). (heading ++ flat here.others ++ flat rows) ++ t) there.2
          ∙ append_assoc (heading ++ flat here.others) (flat rows) (flat there.0) ∙ append_assoc heading (flat here.others) (flat rows ++ flat there.0)
          ∙ ap (λ (t : List ℕ). heading ++ t) (ap (λ (t : List ℕ). flat here.others ++ t) (sym (flat_both rows there.0)) ∙ sym (flat_both here.others (rows ++ there.0))),
    )

-- none of them is `settled yes`
abbrev pub Settles : List ℕ → Type 0
Settles l = BeginsWith (codes "settled yes\n") l

pub sections_settle_none : (states : List State) (lines : List (List ℕ)) → AreSectionLines states lines → Each (λ l. Settles l → ⊥) lines
sections_settle_none [] lines e = subst (Each (λ l. Settles l → ⊥)) (sym e) tt
sections_settle_none (s ∷ more) lines (originator, others, rest, plain, are, e) =
    let Other : List ℕ → Type 0 = λ l. Settles l → ⊥ in
    let rows = map (row_line s.settings.interfaces) s.routes in
    subst (Each Other) (sym e) (
      router_no_settled s.settings.name originator,
      each_both Other others (rows ++ rest) (each_weaker IsPlain Other (λ l is. is.no_settled) others plain)
          (each_both Other rows rest (each_map Other (row_line s.settings.interfaces) (row_no_settled s.settings.interfaces) s.routes) (sections_settle_none more rest are)),
    )

-- each of them is a line
pub sections_are_lines : (states : List State) (lines : List (List ℕ)) → AreSectionLines states lines → Each IsLine lines
sections_are_lines [] lines e = subst (Each IsLine) (sym e) tt
sections_are_lines (s ∷ more) lines (originator, others, rest, plain, are, e) =
    let rows = map (row_line s.settings.interfaces) s.routes in
    subst (Each IsLine) (sym e) (
      router_is_line s.settings originator,
      each_both IsLine others (rows ++ rest) (each_weaker IsPlain IsLine (λ l is. is.line) others plain)
          (each_both IsLine rows rest (each_map IsLine (row_line s.settings.interfaces) (row_is_line s.settings.interfaces) s.routes) (sections_are_lines more rest are)),
    )

-- The whole

-- plain lines that follow
pub plain_lines : (text : List ℕ) → ArePlain text → Plain text
plain_lines text are = record { lines = are.lines; each = recursion_from_All IsPlain are.lines are.each; whole = are.whole }

-- the lines of a text: those before the first section, the sections, and what is said of the gap
pub record TextLines (s : Scenario) (states : List State) (gap : Option Gap) (text : List ℕ) : Type 0 where
  pub front : List (List ℕ)
  pub plain : Each IsPlain front
  pub some : 0 < length front
  pub sections : List (List ℕ)
  pub are_sections : AreSectionLines states sections
  pub whole : text ≡ flat (front ++ sections) ++ settled_text s gap

pub text_lines : (s : Scenario) (trace : Bool) (run : WholeRun s) (text : List ℕ) → (told : IsRunText s trace run text) →
    TextLines s run.final.routers told.gap text
text_lines s trace run text told =
    let is = told.is_summary in
    let counts = counts_line s run.final.traffic.counts in
    let last = settled_text s told.gap in
    let before = trace_plain trace s run told.traced told.is_trace in
    let front = before.lines ++ counts ∷ [] in
    let first : told.traced ++ counts ≡ flat front = ap (λ (t : List ℕ). t ++ counts) before.whole
    ∙ ap (λ (t : List ℕ). flat before.lines ++ t) (sym (append-nil counts)) ∙ sym (flat_both before.lines (counts ∷ [])) in
    let there = sections_lines run.final.routers is.sections is.are_sections in
    record {
      front = front;
      plain = each_both IsPlain before.lines (counts ∷ []) before.each (counts_plain s run.final.traffic.counts, tt);
      some = omega (arith, length-append before.lines (counts ∷ []));
      sections = there.0;
      are_sections = there.1;
      whole = told.whole ∙ ap (λ (t : List ℕ). told.traced ++ t) is.whole
          ∙ sym (append_assoc told.traced (counts ++ is.sections) last) ∙ ap (λ (t : List ℕ). t ++ last) (sym (append_assoc told.traced counts is.sections))
          ∙ ap (λ (t : List ℕ). (t ++ is.sections) ++ last) first ∙ ap (λ (t : List ℕ). (flat front ++ t) ++ last) there.2
          ∙ ap (λ (t : List ℕ). t ++ last) (sym (flat_both front there.0));
    }
