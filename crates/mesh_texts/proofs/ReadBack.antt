-- The text of a run read back: whether it was settled, and the routes under a router's name.
use Rattle.mesh_texts.proofs.Common.{◌≡◌, ◌↔◌, ℕ, zero, suc, ◌<◌, Bool, false, List, [], ◌∷◌, ◌++◌, length, map, Option, Some, None, refl, sym, ap, ◌∙◌, subst, arith, append_assoc, codes, length-append, slice_get, Contains, option_map, common_steps, AllByRecursion as Each, append-nil, map-append, All-from_recursion, recursion_from_All, slice_get-map, Addr4, NetAddr, Route, Scenario, RouterSettings, name_eq, At, State, Gap, dotted, face_name, router_line, row_line, route_line, IsGapOf, settled_text, WholeRun, TellsWhetherSettled, IsRunText, IsLine, BeginsWith, SaysSettled, IsPlain, ArePlain, StandsUnder, PrintsBy}
use Rattle.std.specs.List.{IsDistinct}
use Rattle.std.proofs.lemmas.Cmp.{nat_list_eq_equiv}
use Rattle.mesh_atoms.proofs.Kept.{distinct_is}
use Rattle.mesh_texts.specs.Laws.{EndsSettled, PrintsRows, PrintsRowsBy}
use Rattle.mesh_texts.proofs.Gaps.{no_gap}
use Rattle.mesh_texts.proofs.Cuts.{first_cut, same_front}
use Rattle.mesh_texts.proofs.Marked.{own_name_lacks}
use Rattle.mesh_texts.proofs.LineLists.{heading_front, flat, flat_both, line_among, each_has, Heads, Stands, Under, each_both, each_front, each_back, each_weaker, first_lines, stands_contained, under_past, under_behind}
use Rattle.mesh_texts.proofs.LineTexts.{IsNeither, plain_neither, settled_neither, route_begins}
use Rattle.mesh_texts.proofs.RunStates.{run_states}
use Rattle.mesh_texts.proofs.RouteLines.{SameParts, same_parts, same_slashed, same_decimal, same_dotted}
use Rattle.mesh_texts.proofs.WholeTexts.{Settles, TextLines, text_lines, plain_lines, gap_is_plain, settled_lines, sections_are_lines, sections_settle_none}
use Rattle.mesh_texts.proofs.SectionTexts.{rows_of, Names, in_sections, sections_have}

-- Whether it is settled

-- lines end with a line feed
ends : (lines : List (List ℕ)) → Each IsLine lines → 0 < length lines → (front : List ℕ) × (flat lines ≡ front ++ codes "\n")
ends [] a some = absurd (omega (arith, some))
ends (l ∷ []) a some = (a.0.inside, append-nil l ∙ a.0.whole)
ends (l ∷ (m ∷ lines)) a some =
    let rest = ends (m ∷ lines) a.1 (omega arith) in
    (l ++ rest.0, ap (λ (t : List ℕ). l ++ t) rest.1 ∙ sym (append_assoc l rest.0 (codes "\n")))

-- where no line is `settled yes`, none is in the text
says_none : (lines : List (List ℕ)) (text : List ℕ) → Each IsLine lines → Each (λ l. Settles l → ⊥) lines → text ≡ flat lines → SaysSettled text → ⊥
says_none lines text all none is (front, behind, e) =
    let yes = codes "settled yes\n" in
    let stands = line_among lines front yes behind all settled_neither.line (sym is ∙ e) in
    each_has (λ l. Settles l → ⊥) stands.before stands.behind yes (subst (Each (λ l. Settles l → ⊥)) stands.whole none) ([], sym (append-nil yes))

says_settled : (s : Scenario) (gap : Option Gap) (before behind : List (List ℕ)) (text : List ℕ) → Each IsLine before →
    Each (λ l. Settles l → ⊥) before → Each IsPlain behind → text ≡ flat before ++ (settled_text s gap ++ flat behind) → SaysSettled text → gap ≡ None
says_settled s None before behind text lines none plain e says = refl
says_settled s (Some gap) before behind text lines none plain e says = absurd (
    let Other : List ℕ → Type 0 = λ l. Settles l → ⊥ in
    let told = gap_is_plain s gap in
    let after = told.lines ++ behind in
    let all = each_both IsPlain told.lines behind told.each plain in
    says_none (before ++ after) text (each_both IsLine before after lines (each_weaker IsPlain IsLine (λ l is. is.line) after all))
    (each_both Other before after none (each_weaker IsPlain Other (λ l is. is.no_settled) after all))
    (e ∙ ap (λ (t : List ℕ). flat before ++ (t ++ flat behind)) told.whole ∙ ap (λ (t : List ℕ). flat before ++ t) (sym (flat_both told.lines behind)) ∙ sym (flat_both before after)) says)

told_settled : (s : Scenario) (gap : Option Gap) (front behind text : List ℕ) → text ≡ (front ++ codes "\n") ++ (settled_text s gap ++ behind) →
    gap ≡ None → SaysSettled text
unfolding settled_text
told_settled s None front behind text e none = (front, behind, e ∙ append_assoc front (codes "\n") (codes "settled yes\n" ++ behind))
told_settled s (Some gap) front behind text e none = absurd cc

-- a line is `settled yes` exactly where there is no gap to tell, whatever lines stand before and whatever plain lines behind
pub says_exactly : (s : Scenario) (gap : Option Gap) (before : List (List ℕ)) (behind text : List ℕ) → Each IsLine before →
    0 < length before → Each (λ l. Settles l → ⊥) before → ArePlain behind → text ≡ flat before ++ (settled_text s gap ++ behind) →
    SaysSettled text ↔ (gap ≡ None)
says_exactly s gap before behind text lines some none plain e =
    let last = settled_text s gap in
    let after = plain_lines behind plain in
    let end = ends before lines some in (
      says_settled s gap before after.lines text lines none after.each (e ∙ ap (λ (l : List ℕ). flat before ++ (last ++ l)) after.whole),
      told_settled s gap end.0 behind text (e ∙ ap (λ (l : List ℕ). l ++ (last ++ behind)) end.1),
    )

-- so the text tells whether the network is settled, where the gap is the network's
pub tells_whether : (s : Scenario) (run : WholeRun s) (gap : Option Gap) (text : List ℕ) → IsGapOf s run.final.routers s.end gap →
    SaysSettled text ↔ (gap ≡ None) → TellsWhetherSettled run text
tells_whether s run gap text is says =
    let none = no_gap s run.final.routers s.end gap is in
    (λ h. none.0 (says.0 h), λ settled. says.1 (none.1 settled))

pub ends_settled : EndsSettled
ends_settled s trace run text behind told plain =
    let t = text_lines s trace run text told in
    let lines = t.front ++ t.sections in
    let Other : List ℕ → Type 0 = λ l. Settles l → ⊥ in
    let all = each_both IsLine t.front t.sections (each_weaker IsPlain IsLine (λ l is. is.line) t.front t.plain) (sections_are_lines run.final.routers t.sections t.are_sections) in
    let none = each_both Other t.front t.sections (each_weaker IsPlain Other (λ l is. is.no_settled) t.front t.plain) (sections_settle_none run.final.routers t.sections t.are_sections) in
    says_exactly s told.gap lines behind (text ++ behind) all (omega (arith, t.some, length-append t.front t.sections)) none plain
    (ap (λ (l : List ℕ). l ++ behind) t.whole ∙ append_assoc (flat lines) (settled_text s told.gap) behind)

-- Lines of the text

-- a line that stands under a router's name, among the lines of the text
stands_among : (text name line : List ℕ) (lines : List (List ℕ)) → Each IsLine lines → text ≡ flat lines →
    StandsUnder text name line →
    Under lines (BeginsWith (heading_front name)) line
stands_among text name line lines all is su =
    let end = line ∷ [] in
    let first = su.before ++ su.heading ∷ (su.between ++ end) in
    let before = recursion_from_All IsLine su.before su.lines_before in
    let between = recursion_from_All IsLine su.between su.lines_between in
    let firsts : Each IsLine first = each_both IsLine su.before (su.heading ∷ (su.between ++ end)) before (su.heading_is_line, each_both IsLine su.between end between (su.line_is_line, tt)) in
    let joined : flat first ≡ flat su.before ++ (su.heading ++ (flat su.between ++ (line ++ []))) =
    flat_both su.before (su.heading ∷ (su.between ++ end)) ∙ ap (λ (t : List ℕ). flat su.before ++ (su.heading ++ t)) (flat_both su.between end) in
    let whole : flat lines ≡ flat first ++ su.behind = sym is ∙ su.whole ∙ sym (
    ap (λ (t : List ℕ). t ++ su.behind) joined
    ∙ append_assoc (flat su.before) (su.heading ++ (flat su.between ++ (line ++ []))) su.behind
    ∙ ap (λ (t : List ℕ). flat su.before ++ t) (append_assoc su.heading (flat su.between ++ (line ++ [])) su.behind
    ∙ ap (λ (t : List ℕ). su.heading ++ t) (append_assoc (flat su.between) (line ++ []) su.behind
    ∙ ap (λ (t : List ℕ). flat su.between ++ t) (append_assoc line [] su.behind)))) in
    let rest = first_lines first lines su.behind firsts all whole in
    record {
      before = su.before;
      heading = su.heading;
      between = su.between;
      behind = rest.0;
      whole = rest.1 ∙ append_assoc su.before (su.heading ∷ (su.between ++ end)) rest.0
          ∙ ap (λ (l : List (List ℕ)). su.before ++ su.heading ∷ l) (append_assoc su.between end rest.0);
      kind = su.is_heading;
      no_other = recursion_from_All (λ l. Heads l → ⊥) su.between su.no_other;
    }

-- and back
among_stands : (text name line : List ℕ) (lines : List (List ℕ)) → Each IsLine lines → text ≡ flat lines →
    Under lines (BeginsWith (heading_front name)) line → StandsUnder text name line
among_stands text name line lines all is u =
    let rest = u.heading ∷ (u.between ++ line ∷ u.behind) in
    let every : Each IsLine (u.before ++ rest) = subst (Each IsLine) u.whole all in
    let back = each_back IsLine u.before rest every in
    let under = each_back IsLine u.between (line ∷ u.behind) back.1 in
    record {
      before = u.before;
      heading = u.heading;
      between = u.between;
      behind = flat u.behind;
      whole = is ∙ ap flat u.whole ∙ flat_both u.before rest ∙ ap (λ (t : List ℕ). flat u.before ++ (u.heading ++ t)) (flat_both u.between (line ∷ u.behind));
      lines_before = All-from_recursion IsLine u.before (each_front IsLine u.before rest every);
      heading_is_line = back.0;
      lines_between = All-from_recursion IsLine u.between (each_front IsLine u.between (line ∷ u.behind) back.1);
      line_is_line = under.0;
      is_heading = u.kind;
      no_other = All-from_recursion (λ l. Heads l → ⊥) u.between u.no_other;
    }

-- Names

heading_heads : (name l : List ℕ) → BeginsWith (heading_front name) l → Heads l
heading_heads name l (rest, e) = ((name ++ codes " ") ++ rest, e)

-- the heading of a router begins with its name, and with no other
named_so : (r q : RouterSettings) (originator : Addr4) → BeginsWith (heading_front r.name) (router_line q.name originator) →
    r.name ≡ q.name
unfolding router_line
named_so r q originator (rest, e) =
    let end = dotted originator ++ codes "\n" in
    let cut = same_front (codes "router ") (q.name ++ 32 ∷ end) ((r.name ++ codes " ") ++ rest) e ∙ append_assoc r.name (codes " ") rest in
    sym (first_cut 32 q.name r.name end rest (own_name_lacks 32 (omega arith) q) (own_name_lacks 32 (omega arith) r) cut).0

begins_so : (name l : List ℕ) → Names name l → BeginsWith (heading_front name) l
unfolding router_line
begins_so name l (originator, e) =
    (dotted originator ++ codes "\n", e ∙ ap (λ (t : List ℕ). codes "router " ++ t) (sym (append_assoc name (codes " ") (dotted originator ++ codes "\n"))))

-- a name that stands behind another is another
stands_behind : (n name : List ℕ) (names : List (List ℕ)) (j : ℕ) → Each (λ m. name_eq n m ≡ false) names → n ≡ name →
    slice_get names j ≡ Some name → ⊥
stands_behind n name [] j e same at = cc
stands_behind n name (m ∷ names) zero e same at = grind (arith, common_steps, nat_list_eq_equiv)
stands_behind n name (m ∷ names) (suc j) e same at = stands_behind n name names j e.1 same at

-- two places with the same name are one
one_place : (names : List (List ℕ)) (i j : ℕ) (name : List ℕ) → IsDistinct name_eq names → slice_get names i ≡ Some name →
    slice_get names j ≡ Some name → i ≡ j
unfolding IsDistinct
one_place [] i j name d a b = absurd cc
one_place (n ∷ names) zero zero name d a b = refl
one_place (n ∷ names) zero (suc j) name d a b = absurd (stands_behind n name names j d.0 (let is : n ≡ name = cc in is) b)
one_place (n ∷ names) (suc i) zero name d a b = absurd (stands_behind n name names i d.0 (let is : n ≡ name = cc in is) a)
one_place (n ∷ names) (suc i) (suc j) name d a b = ap suc (one_place names i j name d.1 a b)

-- two routers of a scenario with the same name are one
one_router : (s : Scenario) (x y : ℕ) (r q : RouterSettings) → slice_get s.routers x ≡ Some r →
    slice_get s.routers y ≡ Some q → r.name ≡ q.name → x ≡ y
one_router s x y r q a b same =
    let name = λ (w : RouterSettings). w.name in
    one_place (map name s.routers) x y r.name (distinct_is name_eq (map name s.routers) s.sound_routers.distinct_names)
    (slice_get-map name s.routers x ∙ ap (option_map name) a) (slice_get-map name s.routers y ∙ ap (option_map name) b ∙ ap Some (sym same))

-- Routes

-- a line among those of rows
of_a_row : {A : Type 0} (f : A → List ℕ) (xs : List A) (line : List ℕ) → Stands (map f xs) line →
    (x : A) × Contains xs x × (f x ≡ line)
of_a_row {A} f xs line stands = by xs stands.before stands.whole where
  by : (xs : List A) (before : List (List ℕ)) → map f xs ≡ before ++ line ∷ stands.behind → (x : A) × Contains xs x × (f x ≡ line)
  by [] [] e = absurd cc
  by [] (b ∷ before) e = absurd cc
  by (x ∷ xs) [] e = (x, (0, omega arith, refl), cc)
  by (x ∷ xs) (b ∷ before) e =
      let tail : map f xs ≡ before ++ line ∷ stands.behind = cc in
      let rest = by xs before tail in
      (rest.0, (suc rest.1.0, omega (arith, rest.1.1), rest.1.2), rest.2)

row_stands : {A : Type 0} (f : A → List ℕ) (xs : List A) (x : A) → Contains xs x → Stands (map f xs) (f x)
row_stands {A} f xs x within = grind (arith, common_steps, stands_contained, map, map-append)

-- all lines of a text, and of what follows it
record AllLines (s : Scenario) (run : WholeRun s) (gap : Option Gap) (text behind : List ℕ) : Type 0 where
  t : TextLines s run.final.routers gap text
  last : List (List ℕ)
  neither : Each IsNeither last
  lines : Each IsLine (t.front ++ (t.sections ++ last))
  whole : text ++ behind ≡ flat (t.front ++ (t.sections ++ last))

all_lines : (s : Scenario) (trace : Bool) (run : WholeRun s) (text behind : List ℕ) → (told : IsRunText s trace run text) → ArePlain behind →
    AllLines s run told.gap text behind
all_lines s trace run text behind told plain =
    let t = text_lines s trace run text told in
    let end = settled_lines s told.gap in
    let after = plain_lines behind plain in
    let front = flat (t.front ++ t.sections) in
    let last = end.lines ++ after.lines in
    let all = each_both IsNeither end.lines after.lines end.each (each_weaker IsPlain IsNeither plain_neither after.lines after.each) in
    record {
      t = t;
      last = last;
      neither = all;
      lines = each_both IsLine t.front (t.sections ++ last) (each_weaker IsPlain IsLine (λ l is. is.line) t.front t.plain)
          (each_both IsLine t.sections last (sections_are_lines run.final.routers t.sections t.are_sections) (each_weaker IsNeither IsLine (λ l is. is.line) last all));
      whole = ap (λ (l : List ℕ). l ++ behind) t.whole ∙ append_assoc front (settled_text s told.gap) behind
          ∙ ap (λ (l : List ℕ). front ++ (l ++ behind)) end.whole ∙ ap (λ (l : List ℕ). front ++ (flat end.lines ++ l)) after.whole
          ∙ ap (λ (l : List ℕ). front ++ l) (sym (flat_both end.lines after.lines)) ∙ sym (flat_both (t.front ++ t.sections) last)
          ∙ ap flat (append_assoc t.front t.sections last);
    }

-- a route that is printed is a row of the router
printed_row : (s : Scenario) (trace : Bool) (run : WholeRun s) (text behind : List ℕ) → IsRunText s trace run text → ArePlain behind →
    (x : ℕ) (p : State) → At run.final.routers x p → (dest : NetAddr) (metric : ℕ) (next : Addr4) (face : List ℕ) → PrintsBy (text ++ behind) p.settings.name dest metric next face →
    (row : Route) × Contains p.routes row × SameParts dest metric next face row.dest row.metric row.next (face_name p.settings.interfaces row.iface)
printed_row s trace run text behind told plain x p at dest metric next face (parent, su) =
    let all = all_lines s trace run text behind told plain in
    let states = run_states s run in
    let line = route_line dest metric next face parent in
    let name = p.settings.name in
    let Kind : List ℕ → Type 0 = BeginsWith (heading_front name) in
    let lines = all.t.front ++ (all.t.sections ++ all.last) in
    let u = under_past Kind (heading_heads name) all.t.front (all.t.sections ++ all.last) line (each_weaker IsPlain (λ l. Heads l → ⊥) (λ l is. is.no_heading) all.t.front all.t.plain)
    (stands_among (text ++ behind) name line lines all.lines all.whole su) in
    let found = in_sections Kind (heading_heads name) run.final.routers all.t.sections all.last line all.t.are_sections all.neither (route_begins dest metric next face parent) u in
    let named = named_so p.settings found.s.settings found.originator found.kind in
    let same_place : x ≡ found.x = one_router s x found.x p.settings found.s.settings (states.settings x p at) (states.settings found.x found.s (record { is = found.at })) named in
    let same : found.s ≡ p = same_element run.final.routers x found.x found.s p same_place found.at at.is in
    let row = of_a_row (row_line p.settings.interfaces) p.routes line (subst (λ (w : State). Stands (rows_of w) line) same found.row) in
    (row.0, row.1, same_parts dest row.0.dest metric row.0.metric next row.0.next face (face_name p.settings.interfaces row.0.iface) parent row.0.parent (sym row.2))
  where
    same_element : (states : List State) (x y : ℕ) (a b : State) → x ≡ y → slice_get states y ≡ Some a → slice_get states x ≡ Some b → a ≡ b
    same_element states x y a b e f g = cc

-- a row of the router is printed
row_printed : (s : Scenario) (trace : Bool) (run : WholeRun s) (text behind : List ℕ) → IsRunText s trace run text → ArePlain behind →
    (x : ℕ) (p : State) → At run.final.routers x p → (row : Route) → Contains p.routes row →
    PrintsBy (text ++ behind) p.settings.name row.dest row.metric row.next (face_name p.settings.interfaces row.iface)
row_printed s trace run text behind told plain x p at row within =
    let all = all_lines s trace run text behind told plain in
    let line = row_line p.settings.interfaces row in
    let lines = all.t.front ++ (all.t.sections ++ all.last) in
    let name = p.settings.name in
    let u = under_behind (Names name) all.t.front (all.t.sections ++ all.last) line
    (sections_have run.final.routers all.t.sections all.last line all.t.are_sections x p at.is (row_stands (row_line p.settings.interfaces) p.routes row within)) in (
      row.parent,
      among_stands (text ++ behind) name line lines all.lines all.whole
          (record { before = u.before; heading = u.heading; between = u.between; behind = u.behind; whole = u.whole; kind = begins_so name u.heading u.kind; no_other = u.no_other }),
    )

pub prints_rows : PrintsRows
prints_rows s trace run text behind told plain x p at dest metric d m = (
  λ (next, face, by).
      let row = printed_row s trace run text behind told plain x p at dest metric next face by in
      (row.0, row.1, sym (same_slashed dest row.0.dest d row.2.dests), sym (same_decimal metric row.0.metric m row.2.metrics)),
  λ (row, within, e, f).
      let by = row_printed s trace run text behind told plain x p at row within in (
        row.next,
        face_name p.settings.interfaces row.iface,
        subst (λ (t : NetAddr). PrintsBy (text ++ behind) p.settings.name t metric row.next (face_name p.settings.interfaces row.iface)) e
            (subst (λ (c : ℕ). PrintsBy (text ++ behind) p.settings.name row.dest c row.next (face_name p.settings.interfaces row.iface)) f by),
      ),
)

pub prints_rows_by : PrintsRowsBy
prints_rows_by s trace run text behind told plain x p at dest metric next face d m n = (
  λ by.
      let row = printed_row s trace run text behind told plain x p at dest metric next face by in
      (row.0, row.1, sym (same_slashed dest row.0.dest d row.2.dests), sym (same_decimal metric row.0.metric m row.2.metrics), sym (same_dotted next row.0.next n row.2.nexts), sym row.2.faces),
  λ (row, within, e, f, g, h).
      let by = row_printed s trace run text behind told plain x p at row within in
      subst (λ (l : List ℕ). PrintsBy (text ++ behind) p.settings.name dest metric next l) h
      (subst (λ (a : Addr4). PrintsBy (text ++ behind) p.settings.name dest metric a (face_name p.settings.interfaces row.iface)) g
      (subst (λ (t : NetAddr). PrintsBy (text ++ behind) p.settings.name t metric row.next (face_name p.settings.interfaces row.iface)) e
      (subst (λ (c : ℕ). PrintsBy (text ++ behind) p.settings.name row.dest c row.next (face_name p.settings.interfaces row.iface)) f by))),
)
