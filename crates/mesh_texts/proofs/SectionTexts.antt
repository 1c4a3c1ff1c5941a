-- What stands under the headings of sections.
use Rattle.mesh_texts.proofs.Common.{arith, common_steps, ◌≡◌, ℕ, zero, suc, List, [], ◌∷◌, ◌++◌, map, Some, inl, inr, refl, sym, ap, ◌∙◌, subst, append_assoc, codes, slice_get, AllByRecursion as Each, Addr4, State, line_of, dotted, router_line, row_line, BeginsWith, IsPlain, heads_equal, tails_equal}
use Rattle.mesh_texts.proofs.LineLists.{Heads, Stands, Under, each_both, each_front, each_back, each_map, each_weaker, each_has, stands_in_two, under_past, under_behind}
use Rattle.mesh_texts.proofs.LineTexts.{IsNeither, plain_neither, router_no_route, row_no_heading}
use Rattle.mesh_texts.proofs.WholeTexts.{AreSectionLines}

-- a line that begins like a route
abbrev pub Routes : List ℕ → Type 0
Routes l = BeginsWith (codes " route ") l

-- the lines of a router's routes
abbrev pub rows_of : State → List (List ℕ)
rows_of s = map (row_line s.settings.interfaces) s.routes

-- the heading of a router's section
abbrev heading_of : State → Addr4 → List ℕ
heading_of s originator = router_line s.settings.name originator

router_heads : (name : List ℕ) (originator : Addr4) → Heads (router_line name originator)
unfolding router_line
router_heads name originator = (line_of (name ∷ codes " " ∷ dotted originator ∷ []), refl)

no_headings : (lines : List (List ℕ)) → Each IsPlain lines → Each (λ l. Heads l → ⊥) lines
no_headings = each_weaker IsPlain (λ l. Heads l → ⊥) (λ l is. is.no_heading)

rows_no_headings : (s : State) → Each (λ l. Heads l → ⊥) (rows_of s)
rows_no_headings s = each_map (λ l. Heads l → ⊥) (row_line s.settings.interfaces) (row_no_heading s.settings.interfaces) s.routes

-- a line that is neither is no route
neither_no_route : (before behind : List (List ℕ)) (line : List ℕ) (lines : List (List ℕ)) → Each IsNeither lines →
    lines ≡ before ++ line ∷ behind → Routes line → ⊥
neither_no_route before behind line lines all e route = (each_has IsNeither before behind line (subst (Each IsNeither) e all)).no_route route

-- with further lines behind them
with_back : (heading : List ℕ) (others rows rest back lines : List (List ℕ)) → lines ≡ heading ∷ (others ++ (rows ++ rest)) →
    lines ++ back ≡ heading ∷ (others ++ (rows ++ (rest ++ back)))
with_back heading others rows rest back lines e = grind (arith, common_steps)

-- before the first heading stands no route
no_route_first : (states : List State) (lines back between behind : List (List ℕ)) (line : List ℕ) →
    AreSectionLines states lines → Each IsNeither back →
    lines ++ back ≡ between ++ line ∷ behind → Each (λ l. Heads l → ⊥) between → Routes line → ⊥
no_route_first [] lines back between behind line are plain e clear route = neither_no_route between behind line back plain (ap (λ (l : List (List ℕ)). l ++ back) (sym are) ∙ e) route
no_route_first (s ∷ more) lines back between behind line (originator, others, rest, _, _, is) plain e clear route = by between (sym (with_back (heading_of s originator) others (rows_of s) rest back lines is) ∙ e) clear where
  by : (between : List (List ℕ)) → heading_of s originator ∷ (others ++ (rows_of s ++ (rest ++ back))) ≡ between ++ line ∷ behind → Each (λ l. Heads l → ⊥) between → ⊥
  by [] e clear = router_no_route s.settings.name originator (subst Routes (sym (heads_equal (heading_of s originator) line (others ++ (rows_of s ++ (rest ++ back))) behind e)) route)
  by (b ∷ before) e clear = clear.0 (subst Heads (heads_equal (heading_of s originator) b (others ++ (rows_of s ++ (rest ++ back))) (before ++ line ∷ behind) e) (router_heads s.settings.name originator))

-- where a route stands under a heading
pub record IsIn (states : List State) (Kind : List ℕ → Type 0) (line : List ℕ) : Type 0 where
  pub x : ℕ
  pub s : State
  pub at : slice_get states x ≡ Some s
  pub originator : Addr4
  pub kind : Kind (router_line s.settings.name originator)
  pub row : Stands (rows_of s) line

-- a route that stands under a heading is among the routes of that section
pub in_sections : (Kind : List ℕ → Type 0) → ((l : List ℕ) → Kind l → Heads l) →
    (states : List State) (lines back : List (List ℕ)) (line : List ℕ) → AreSectionLines states lines →
    Each IsNeither back → Routes line → Under (lines ++ back) Kind line → IsIn states Kind line
in_sections Kind heads [] lines back line are plain route u =
    let whole : back ≡ u.before ++ u.heading ∷ (u.between ++ line ∷ u.behind) = ap (λ (l : List (List ℕ)). l ++ back) (sym are) ∙ u.whole in
    absurd ((each_has IsNeither u.before (u.between ++ line ∷ u.behind) u.heading (subst (Each IsNeither) whole plain)).no_heading (heads u.heading u.kind))
in_sections Kind heads (s ∷ more) lines back line (originator, others, rest, others_plain, are, is) plain route u =
    by (in_sections Kind heads more rest back line are plain route) u.before (sym (with_back (heading_of s originator) others (rows_of s) rest back lines is) ∙ u.whole) where
      by_rows : heading_of s originator ≡ u.heading → (between : List (List ℕ)) → rows_of s ++ (rest ++ back) ≡ between ++ line ∷ u.behind → u.between ≡ others ++ between → IsIn (s ∷ more) Kind line
      by_rows same between e split = elim (stands_in_two (rows_of s) (rest ++ back) between u.behind line e) [
        | inl here ↦ record { x = 0; s = s; at = refl; originator = originator; kind = subst Kind (sym same) u.kind; row = here }
        | inr there ↦ absurd (no_route_first more rest back there.0 u.behind line are plain there.1
            (each_back (λ l. Heads l → ⊥) (rows_of s) there.0 (subst (Each (λ l. Heads l → ⊥)) there.2 (each_back (λ l. Heads l → ⊥) others between (subst (Each (λ l. Heads l → ⊥)) split u.no_other)))) route)
      ]

      later : IsIn more Kind line → IsIn (s ∷ more) Kind line
      later w = record { x = suc w.x; s = w.s; at = w.at; originator = w.originator; kind = w.kind; row = w.row }

      by : (Under (rest ++ back) Kind line → IsIn more Kind line) → (before : List (List ℕ)) → heading_of s originator ∷ (others ++ (rows_of s ++ (rest ++ back))) ≡ before ++ u.heading ∷ (u.between ++ line ∷ u.behind) → IsIn (s ∷ more) Kind line
      by again [] e = elim (stands_in_two others (rows_of s ++ (rest ++ back)) u.between u.behind line (tails_equal (heading_of s originator) u.heading (others ++ (rows_of s ++ (rest ++ back))) (u.between ++ line ∷ u.behind) e)) [
        | inl here ↦ absurd (neither_no_route here.before here.behind line others (each_weaker IsPlain IsNeither plain_neither others others_plain) here.whole route)
        | inr there ↦ by_rows (heads_equal (heading_of s originator) u.heading (others ++ (rows_of s ++ (rest ++ back))) (u.between ++ line ∷ u.behind) e) there.0 there.1 there.2
      ]
      by again (b ∷ before) e = later (again
          (under_past Kind heads (rows_of s) (rest ++ back) line (rows_no_headings s) (under_past Kind heads others (rows_of s ++ (rest ++ back)) line (no_headings others others_plain)
          (record { before = before; heading = u.heading; between = u.between; behind = u.behind; whole = tails_equal (heading_of s originator) b (others ++ (rows_of s ++ (rest ++ back))) (before ++ u.heading ∷ (u.between ++ line ∷ u.behind)) e; kind = u.kind; no_other = u.no_other }))))

-- a heading of a router of that name
abbrev pub Names : List ℕ → List ℕ → Type 0
Names name heading = (originator : Addr4) × (heading ≡ router_line name originator)

-- a route of a section stands under the heading of its router
pub sections_have : (states : List State) (lines back : List (List ℕ)) (line : List ℕ) → AreSectionLines states lines →
    (x : ℕ) (s : State) → slice_get states x ≡ Some s →
    Stands (rows_of s) line → Under (lines ++ back) (Names s.settings.name) line
sections_have [] lines back line are x s at row = absurd cc
sections_have (s' ∷ more) lines back line (originator, others, rest, plain, are, is) zero s at row = subst (λ (w : State). Stands (rows_of w) line → Under (lines ++ back) (Names w.settings.name) line) same here row where
  same : s' ≡ s
  same = cc

  here : Stands (rows_of s') line → Under (lines ++ back) (Names s'.settings.name) line
  here r = record {
    before = [];
    heading = router_line s'.settings.name originator;
    between = others ++ r.before;
    behind = r.behind ++ (rest ++ back);
    whole = with_back (router_line s'.settings.name originator) others (rows_of s') rest back lines is
        ∙ ap (λ (l : List (List ℕ)). router_line s'.settings.name originator ∷ l) (
        ap (λ (l : List (List ℕ)). others ++ (l ++ (rest ++ back))) r.whole ∙ ap (λ (l : List (List ℕ)). others ++ l) (append_assoc r.before (line ∷ r.behind) (rest ++ back))
        ∙ sym (append_assoc others r.before (line ∷ (r.behind ++ (rest ++ back)))));
    kind = (originator, refl);
    no_other = each_both (λ l. Heads l → ⊥) others r.before (no_headings others plain)
        (each_front (λ l. Heads l → ⊥) r.before (line ∷ r.behind) (subst (Each (λ l. Heads l → ⊥)) r.whole (rows_no_headings s')));
  }
sections_have (s' ∷ more) lines back line (originator, others, rest, plain, are, is) (suc x) s at row =
    let heading = router_line s'.settings.name originator in
    let front = heading ∷ (others ++ rows_of s') in
    let whole : lines ++ back ≡ front ++ (rest ++ back) = with_back heading others (rows_of s') rest back lines is
    ∙ ap (λ (l : List (List ℕ)). heading ∷ l) (sym (append_assoc others (rows_of s') (rest ++ back))) in
    subst (λ (l : List (List ℕ)). Under l (Names s.settings.name) line) (sym whole) (under_behind (Names s.settings.name) front (rest ++ back) line (sections_have more rest back line are x s at row))
