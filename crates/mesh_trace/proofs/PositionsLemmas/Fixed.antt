-- All else of a run than what its lines tell is fixed.
use Rattle.mesh_trace.proofs.Common.{common_steps, inr, inl, ◌≡◌, ℕ, ◌<◌, refl, sym, ◌∙◌, ap, subst, arith, List, [], ◌∷◌, ◌++◌, length, Some, slice_get, cases_lt, slice_get_within, RouterSettings, Scenario, Bases, State, IsOpening, opening_sound, bases_of, same_at, NetState, AlikeBases, AlikeStates, Alike, HasAddresses, IsSoundPosition, TellsItem, NothingFollows, NoneIsLonger, AllElseIsFixed, LeadsAlike, LeadsFromAlike, OneDecidesFit, OneDecidesEnd, UnfitIsNotWhole, OneUnfit, Item, TracePosition, IsFirstPosition, IsDone, Fits, LineLeads, To_event, To_item, LeadsBy, Reaches, At_line, Behind_all, item_at as stands}
use Rattle.mesh_trace.proofs.PositionsLemmas.Addresses.{positions_have_addresses}
use Rattle.mesh_trace.proofs.PositionsLemmas.AlikeBases.{bases_itself}
use Rattle.mesh_trace.proofs.PositionsLemmas.AlikeItems.{tells_once}
use Rattle.mesh_trace.proofs.PositionsLemmas.AlikeNets.{AlikeNets, as_nets, states_on, tells_from}
use Rattle.mesh_trace.proofs.PositionsLemmas.AlikeStates.{HoldsAlso, holds_also, holds_by, rows_only, states_back}
use Rattle.mesh_trace.proofs.PositionsLemmas.EventsFrom.{router_also, last_ticks_from, opens_from}
use Rattle.mesh_trace.proofs.PositionsLemmas.EventsOnce.{opens_once}
use Rattle.mesh_trace.proofs.PositionsLemmas.Over.{over_opens}
use Rattle.mesh_trace.proofs.PositionsLemmas.SoundPositions.{positions_are_sound}
use Rattle.mesh_trace.proofs.PositionsLemmas.Walks.{leads_on}

alike_on : (p q r : TracePosition) → Alike p q → Alike q r → Alike p r
alike_on p q r h k = record {
  scenario = k.scenario ∙ h.scenario;
  count = k.count ∙ h.count;
  routers = λ x s t at at'. (let mid = router_also p.net q.net (as_nets p q h) x s at in states_on s mid.t t mid.alike (k.routers x mid.t t mid.stands at'));
  traffic = k.traffic ∙ h.traffic;
  last_ticks = k.last_ticks ∙ h.last_ticks;
  router = k.router ∙ h.router;
  left = k.left ∙ h.left;
}

-- ---- items

-- an item that is told at the one is told at the other
record ItemAlso (p q : TracePosition) (line : List ℕ) (s : State) (item : Item) (rest more : List Item) (after : NetState) : Type 0 where
  t : State
  stands : slice_get q.net.routers q.router ≡ Some t
  left : q.left ≡ item ∷ rest
  alike : AlikeStates s t
  one : HoldsAlso s t
  other : HoldsAlso t s
  new : NetState
  tells : TellsItem q.net q.router t line item new more
  nets : AlikeNets after new

item_also : (p q : TracePosition) (line : List ℕ) (s : State) (item : Item) (rest more : List Item) (after : NetState) → IsSoundPosition p → IsSoundPosition q → Alike p q → p.left ≡ item ∷ rest →
    slice_get p.net.routers p.router ≡ Some s → TellsItem p.net p.router s line item after more → ItemAlso p q line s item rest more after
item_also p q line s item rest more after sound sound' alike left stands tells =
    let nets = as_nets p q alike in
    let there = router_also p.net q.net nets p.router s stands in
    let t = there.t in
    let here = (sound.sound p.router s stands).neighbourhood in
    let other = (sound'.sound p.router t there.stands).neighbourhood in
    let to = holds_also s t here other there.alike in
    let back = holds_also t s other here (states_back s t there.alike) in
    let also = tells_from p.net q.net p.router s t line nets there.alike to back item after more tells in
    record {
      t = t;
      stands = subst (λ (x : ℕ). slice_get q.net.routers x ≡ Some t) (sym alike.router) there.stands;
      left = alike.left ∙ left;
      alike = there.alike;
      one = to;
      other = back;
      new = also.new;
      tells = subst (λ (x : ℕ). TellsItem q.net x t line item also.new more) (sym alike.router) also.tells;
      nets = also.alike;
    }

as_same : (m n : NetState) (x y : ℕ) (one other : List Item) → AlikeNets m n → y ≡ x → other ≡ one →
    Alike (record { net = m; router = x; left = one }) (record { net = n; router = y; left = other })
as_same m n x y one other h router left = grind (arith, common_steps, left)

-- a line that leads on from the one leads on from the other, to where it is alike
pub leads_along : (p q after : TracePosition) (line : List ℕ) → IsSoundPosition p → IsSoundPosition q → Alike p q → LineLeads p line after →
    (other : TracePosition) × LineLeads q line other × Alike after other
leads_along p q after line sound sound' alike (To_event none opens) =
    let also = opens_from p.net q.net (as_nets p q alike) line after opens in
    (also.new, To_event (alike.left ∙ none) also.opens, also.alike)
leads_along p q after line sound sound' alike (To_item {s} {item} {rest} {more} {net} left stands tells leads) =
    let also = item_also p q line s item rest more net sound sound' alike left stands tells in
    let other : TracePosition = record { net = also.new; router = q.router; left = more ++ rest } in
    let same = as_same net also.new p.router q.router (more ++ rest) (more ++ rest) also.nets alike.router refl in
    (other, To_item also.left also.stands also.tells refl, subst (λ (z : TracePosition). Alike z other) (sym leads) same)

pub leads_from_alike : LeadsFromAlike
leads_from_alike p q after line sound sound' alike leads =
    let (other, led, same) = leads_along p q after line sound sound' alike leads in (other, led)

pub leads_alike : LeadsAlike
leads_alike p q after other line sound sound' known alike (To_event none opens) (To_event none' opens') =
    let also = opens_from p.net q.net (as_nets p q alike) line after opens in
    alike_on after also.new other also.alike (opens_once q.net line also.new other sound'.sound also.opens opens')
leads_alike p q after other line sound sound' known alike (To_event none opens) (To_item {item} {rest} left stands tells leads) =
    absurd (let no : [] ≡ item ∷ rest = sym none ∙ (sym alike.left ∙ left) in cc)
leads_alike p q after other line sound sound' known alike (To_item {item} {rest} left stands tells leads) (To_event none opens) =
    absurd (let no : [] ≡ item ∷ rest = sym none ∙ (alike.left ∙ left) in cc)
leads_alike p q after other line sound sound' known alike (To_item {s} {item} {rest} {more} {net} left stands tells leads)
    (To_item {s = u} {item = item'} {rest = rest'} {more = more'} {net = net'} left' stands' tells' leads') =
    let also = item_also p q line s item rest more net sound sound' alike left stands tells in
    let lists : item' ∷ rest' ≡ item ∷ rest = sym left' ∙ also.left in
    let items : item' ≡ item = cc in
    let rests : rest' ≡ rest = cc in
    let states : u ≡ also.t = same_at q.net.routers q.router u also.t stands' also.stands in
    let told : TellsItem q.net q.router also.t line item net' more' =
    subst (λ (i : Item). TellsItem q.net q.router also.t line i net' more') items (subst (λ (z : State). TellsItem q.net q.router z line item' net' more') states tells') in
    let known_there : HasAddresses also.t = λ o n has. known.addresses p.router s stands o n (also.other.neighbours o n has) in
    let (nets, mores) = tells_once q.net q.router also.t line item also.new net' more more' known_there also.tells told in
    subst (λ (z : TracePosition). Alike z other) (sym leads)
    (subst (λ (z : TracePosition). Alike (record { net = net; router = p.router; left = more ++ rest }) z) (sym leads')
    (as_same net net' p.router q.router (more ++ rest) (more' ++ rest') (subst (λ (n : NetState). AlikeNets net n) nets also.nets) alike.router
    (ap (λ (l : List Item). l ++ rest') (sym mores) ∙ ap (λ (l : List Item). more ++ l) rests)))

-- ---- before the first event

opening_alike : (settings : RouterSettings) (a b : State) → IsOpening settings a → IsOpening settings b → AlikeStates a b
opening_alike settings a b h k =
    let same_settings : b.settings ≡ a.settings = k.settings_are ∙ sym h.settings_are in
    let relays : b.relays ≡ a.relays = k.relays ∙ sym h.relays in
    let same : b.bases ≡ a.bases = k.bases ∙ sym h.bases in
    let bases : AlikeBases a.bases b.bases = subst (λ (z : Bases). AlikeBases a.bases z) (sym same) (bases_itself a.bases) in
    let back : AlikeBases b.bases a.bases = subst (λ (z : Bases). AlikeBases z a.bases) (sym same) (bases_itself a.bases) in
    let one = (bases_of a (opening_sound settings a h)).neighbourhood in
    let other = (bases_of b (opening_sound settings b k)).neighbourhood in
    record {
      settings = same_settings;
      bases = bases;
      relays = relays;
      rows = sym (rows_only a b (holds_by a b one other same_settings relays bases.neighbourhood) (holds_by b a other one (sym same_settings) (sym relays) back.neighbourhood) a.rows b.rows h.rows k.rows);
      ansn = k.ansn ∙ sym h.ansn;
      emptied = k.emptied ∙ sym h.emptied;
      sequence = k.sequence ∙ sym h.sequence;
      next_hello = k.next_hello ∙ sym h.next_hello;
      next_tc = k.next_tc ∙ sym h.next_tc;
      last = k.last ∙ sym h.last;
    }

first_alike : (s : Scenario) (p q : TracePosition) → IsFirstPosition s p → IsFirstPosition s q → Alike p q
first_alike s p q h k = record {
  scenario = k.opening.scenario_is ∙ sym h.opening.scenario_is;
  count = k.opening.count ∙ sym h.opening.count;
  routers = λ x a b at at'.
      (let below : x < length s.routers = let l = slice_get_within p.net.routers x a at in let c = h.opening.count in omega (arith, l, c) in
      let (settings, there) = stands s.routers x below in
      opening_alike settings a b (h.opening.opening x settings a there at) (k.opening.opening x settings b there at'));
  traffic = k.opening.traffic ∙ sym h.opening.traffic;
  last_ticks = k.opening.last_ticks ∙ sym h.opening.last_ticks;
  router = k.nobody ∙ sym h.nobody;
  left = k.none ∙ sym h.none;
}

-- ---- whole lists of lines

reaches_on : (s : Scenario) (front : List (List ℕ)) (p : TracePosition) (line : List ℕ) (q : TracePosition) → Reaches s front p → LineLeads p line q → Reaches s (front ++ line ∷ []) q
reaches_on s front p line q (first, is, leads) one = (first, is, leads_on first p q front (line ∷ []) leads (q, one, refl))

alike_by : (s : Scenario) (front lines : List (List ℕ)) (p q after other : TracePosition) → Reaches s front p → Reaches s front q → Alike p q → LeadsBy p lines after → LeadsBy q lines other → Alike after other
alike_by s front [] p q after other here there alike same same' =
    subst (λ (z : TracePosition). Alike z other) (sym same) (subst (λ (z : TracePosition). Alike p z) (sym same') alike)
alike_by s front (line ∷ lines) p q after other here there alike (mid, one, more) (mid', one', more') =
    let next = leads_alike p q mid mid' line (positions_are_sound s front p here) (positions_are_sound s front q there) (positions_have_addresses s front p here) alike one one' in
    alike_by s (front ++ line ∷ []) lines mid mid' after other (reaches_on s front p line mid here one) (reaches_on s front q line mid' there one') next more more'

pub all_else_is_fixed : AllElseIsFixed
all_else_is_fixed s lines p q (first, is, leads) (first', is', leads') =
    alike_by s [] lines first first' p q (first, is, refl) (first', is', refl) (first_alike s first first' is is') leads leads'

pub one_decides_fit : OneDecidesFit
one_decides_fit s lines line p here none (q, after, there, leads) =
    let (other, led) = leads_from_alike q p after line (positions_are_sound s lines q there) (positions_are_sound s lines p here) (all_else_is_fixed s lines q p there here) leads in
    none other led

-- so all is done at the other, where it is at the one
pub done_along : (p q : TracePosition) → Alike p q → IsDone p → IsDone q
done_along p q alike done = record {
  over = record {
    only = last_ticks_from p.net q.net (as_nets p q alike) done.over.only;
    last_ticks = alike.last_ticks ∙ (done.over.last_ticks ∙ sym alike.count);
  };
  none = alike.left ∙ done.none;
}

pub one_decides_end : OneDecidesEnd
one_decides_end s lines p here undone (q, there, done) =
    let alike = all_else_is_fixed s lines q p there here in
    undone (done_along q p alike done)

-- ---- a trace with a line that doesn't fit isn't whole

split : (front : List (List ℕ)) (line : List ℕ) (rest : List (List ℕ)) (p q : TracePosition) → LeadsBy p (front ++ line ∷ rest) q → (mid : TracePosition) × (next : TracePosition) × LeadsBy p front mid × LineLeads mid line next
split [] line rest p q (mid, one, more) = (p, mid, refl, one)
split (l ∷ front) line rest p q (mid, one, more) = let (a, b, before, leads) = split front line rest mid q more in (a, b, (mid, one, before), leads)

pub unfit_is_not_whole : UnfitIsNotWhole
unfit_is_not_whole s lines k (At_line p front line rest whole reaches unfit) (q, (first, is, leads), done) =
    let (mid, next, before, led) = split front line rest first q (subst (λ (l : List (List ℕ)). LeadsBy first l q) whole leads) in
    unfit (mid, next, (first, is, before), led)
unfit_is_not_whole s lines k (Behind_all p reaches none) ended = none ended

-- one line at most is the first that doesn't fit
longer : {A : Type 0} (front front' : List A) (line line' : A) (rest rest' : List A) → front ++ line ∷ rest ≡ front' ++ line' ∷ rest' → length front < length front' → (more : List A) × (front' ≡ front ++ line ∷ more)
longer [] [] line line' rest rest' e less = absurd (omega (arith, less))
longer {A} [] (x ∷ front') line line' rest rest' e less = let heads : line ≡ x = cc in (front', ap (λ (z : A). z ∷ front') (sym heads))
longer (x ∷ front) [] line line' rest rest' e less = absurd (omega (arith, less))
longer {A} (x ∷ front) (y ∷ front') line line' rest rest' e less =
    let heads : x ≡ y = cc in
    let tails : front ++ line ∷ rest ≡ front' ++ line' ∷ rest' = cc in
    let (more, is) = longer front front' line line' rest rest' tails (omega (arith, less)) in
    (more, ap (λ (z : A). z ∷ front') (sym heads) ∙ ap (λ (l : List A). x ∷ l) is)

fits_within : (s : Scenario) (lines front : List (List ℕ)) (line : List ℕ) (rest : List (List ℕ)) (p : TracePosition) → lines ≡ front ++ line ∷ rest → Reaches s lines p → Fits s front line
fits_within s lines front line rest p whole (first, is, leads) =
    let (mid, next, before, led) = split front line rest first p (subst (λ (l : List (List ℕ)). LeadsBy first l p) whole leads) in (mid, next, (first, is, before), led)

pub one_unfit : OneUnfit
one_unfit s lines k j (At_line p front line rest whole reaches unfit) (At_line p' front' line' rest' whole' reaches' unfit') = elim (cases_lt (length front) (length front')) [
  | inl less ↦ (let (more, is) = longer front front' line line' rest rest' (sym whole ∙ whole') less in absurd (unfit (fits_within s front' front line more p' is reaches')))
  | inr most ↦ elim (cases_lt (length front') (length front)) [
    | inl less ↦ (let (more, is) = longer front' front line' line rest' rest (sym whole' ∙ whole) less in absurd (unfit' (fits_within s front front' line' more p is reaches)))
    | inr least ↦ omega (arith, most, least)
  ]
]
one_unfit s lines k j (At_line p front line rest whole reaches unfit) (Behind_all p' reaches' none) = absurd (unfit (fits_within s lines front line rest p' whole reaches'))
one_unfit s lines k j (Behind_all p reaches none) (At_line p' front line rest whole reaches' unfit) = absurd (unfit (fits_within s lines front line rest p whole reaches))
one_unfit s lines k j (Behind_all p reaches none) (Behind_all p' reaches' none') = refl

-- ---- behind a whole trace

closed : (p : TracePosition) (line : List ℕ) (q : TracePosition) → IsDone p → LineLeads p line q → ⊥
closed p line q done (To_event none opens) = over_opens p.net line q done.over opens
closed p line q done (To_item {item} {rest} left stands tells leads) = absurd (let no : [] ≡ item ∷ rest = sym done.none ∙ left in cc)

pub nothing_follows : NothingFollows
nothing_follows s lines line (p, here, done) = one_decides_fit s lines line p here (λ q. closed p line q done)

pub none_is_longer : NoneIsLonger
none_is_longer s lines line more whole (q, there, done) = nothing_follows s lines line whole (fits_within s (lines ++ line ∷ more) lines line more q refl there)
