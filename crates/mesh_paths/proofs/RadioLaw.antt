-- Joined routers, and the pairs and parts that make a radio graph.
use Rattle.mesh_paths.proofs.Common.{common_steps, ◌≡◌, ℕ, suc, ◌+◌, ◌<◌, ◌≤◌, ◌⊎◌, inl, inr, refl, sym, ◌∙◌, ap, subst, arith, Bool, true, false, cond, Decides, List, [], ◌∷◌, map, filter, length, Contains, slice_get, slice_index, slice_index_or, slice_set, Some, not, list_any, range_with_len, sum, cases_eq, and_parts, length-set, AllWithin-more, at_read, get_or-range_with_len, length-range_with_len, sum_by-set, slice_get_within, get_or_from_slice_get, Pair, Metric, RadioArc, RouterSettings, Scenario, Joins, Adjacent, Joined, IsRadioGraph, are_distinct, ends_eq, Decides-and, Decides-eqb, Decides-some, pair_of, is_admitted, is_arc_back, is_admitted_back, is_met, is_joined, Chain, IsInside, IsLevel, IsParts, Lowers, Goes, contains_filter as picked, contains_cases, contains_map, contains_at, contains_none as none_of, not_both, none_is_some}
use Rattle.mesh_atoms.specs.Radio.Joined.{Itself, By}
use Rattle.mesh_paths.proofs.Admitted.{joins_back, admitted_arc, admits_arc}
use Rattle.mesh_paths.specs.Parts.Chain.{Start, On}
use Rattle.mesh_paths.proofs.Rows.{item_in}
use Rattle.mesh_paths.proofs.Scenarios.{any_of, ends_of, same_ends, sound_scenario}

-- Joined routers

pub adjacent_back : (s : Scenario) (x y : ℕ) → Adjacent s x y → Adjacent s y x
adjacent_back s x y (i, j, there, back, joins) = (j, i, back, there, joins_back joins)

pub joined_first : (s : Scenario) (x y z : ℕ) → Adjacent s x y → Joined s y z → Joined s x z
joined_first s x y z first Itself = By Itself first
joined_first s x y z first (By {v = v} chain last) = By (joined_first s x y v first chain) last

pub joined_back : (s : Scenario) (x y : ℕ) → Joined s x y → Joined s y x
joined_back s x y Itself = Itself
joined_back s x y (By {v = v} chain last) = joined_first s y v x (adjacent_back s v y last) (joined_back s x v chain)

pub joined_trans : (s : Scenario) (x y z : ℕ) → Joined s x y → Joined s y z → Joined s x z
joined_trans s x y z first Itself = first
joined_trans s x y z first (By {v = v} chain last) = By (joined_trans s x y v first chain) last

-- a router that is joined with a router is one
pub joined_inside : (s : Scenario) (x y : ℕ) → x < length s.routers → Joined s x y → y < length s.routers
joined_inside s x y l Itself = l
joined_inside s x y l (By {v = v} chain (i, j, there, back, joins)) =
    let (_, _, (r, at)) = (sound_scenario s).ends v i y j there joins.out in
    slice_get_within s.routers y r at

-- Lists of what passes a test

picked_by : {A B : Type 0} (f : A → B) (b : Bool) (x : A) (rest : List A) (y : B) → Contains (map f (cond b (x ∷ rest) rest)) y → ((b ≡ true) × (f x ≡ y)) ⊎ Contains (map f rest) y
picked_by f b x rest y c = grind (arith, common_steps, contains_cases)

picked_from : {A B : Type 0} (f : A → B) (q : A → Bool) (xs : List A) (y : B) → Contains (map f (filter q xs)) y → (x : A) × Contains xs x × (q x ≡ true) × (f x ≡ y)
picked_from f q [] y c = absurd (none_of y c)
picked_from f q (x ∷ xs) y c = elim (picked_by f (q x) x (filter q xs) y c) [
  | inl (passes, e) ↦ (x, (0, omega arith, refl), passes, e)
  | inr more ↦ (let (a, (k, l, at), passes, e) = picked_from f q xs y more in (a, (suc k, omega (arith, l), at), passes, e))
]

-- no value stands at two places
abbrev Once : {A : Type 0} → List A → Type 0
Once {A} xs = (k l : ℕ) (a : A) → slice_get xs k ≡ Some a → slice_get xs l ≡ Some a → k ≡ l

once_more : {A : Type 0} (x : A) (xs : List A) → (Contains xs x → ⊥) → Once xs → Once (x ∷ xs)
once_more x xs new rest h4 h5 a at to = grind (arith, common_steps, contains_at)

-- Pairs

-- the second arc leads back between the interfaces of the first
abbrev LeadsBack : RadioArc → RadioArc → Type 0
LeadsBack arc back = (((back.from ≡ arc.to) × (back.from_iface ≡ arc.to_iface)) × (back.to ≡ arc.from)) × (back.to_iface ≡ arc.from_iface)

Decides-is_arc_back : (arc back : RadioArc) → Decides (is_arc_back arc back) (LeadsBack arc back)
Decides-is_arc_back arc back = Decides-and _ _ (Decides-and _ _ (Decides-and _ _ (Decides-eqb back.from arc.to) (Decides-eqb back.from_iface arc.to_iface)) (Decides-eqb back.to arc.from)) (Decides-eqb back.to_iface arc.from_iface)

-- the same, and it is admitted
abbrev LeadsHome : Scenario → RadioArc → RadioArc → Type 0
LeadsHome s arc back = LeadsBack arc back × (is_admitted s.routers s.end back ≡ true)

Decides-is_admitted_back : (s : Scenario) (arc back : RadioArc) → Decides (is_admitted_back s.routers s.end arc back) (LeadsHome s arc back)
Decides-is_admitted_back s arc back = Decides-and _ _ (Decides-is_arc_back arc back) (λ e. e, λ e. e)

Decides-is_met : (s : Scenario) (arc : RadioArc) → Decides (is_met s.routers s.end s.arcs arc) ((back : RadioArc) × Contains s.arcs back × LeadsHome s arc back)
Decides-is_met s arc = Decides-some (is_admitted_back s.routers s.end arc) (LeadsHome s arc) (Decides-is_admitted_back s arc) s.arcs

same_pair : (arc : RadioArc) (p : Pair) → arc.from ≡ p.from → arc.from_iface ≡ p.from_iface → arc.to ≡ p.to → arc.to_iface ≡ p.to_iface → arc.metric ≡ p.metric → pair_of arc ≡ p
same_pair arc p from from_iface to to_iface metric = λ i. record { from = from i; from_iface = from_iface i; to = to i; to_iface = to_iface i; metric = metric i }

-- the arc joins its interfaces
abbrev is_joint : Scenario → RadioArc → Bool
is_joint s arc = is_joined s.routers s.end s.arcs arc

-- one pair for each arc that joins its interfaces
abbrev pub pairs_in : Scenario → List Pair
pairs_in s = map pair_of (filter (is_joint s) s.arcs)

-- the same of the routers and arcs that a scenario has
pub pairs_from : (s : Scenario) (routers : List RouterSettings) (arcs : List RadioArc) → routers ≡ s.routers → arcs ≡ s.arcs →
    map pair_of (filter (is_joined routers s.end arcs) arcs) ≡ pairs_in s
pairs_from s routers arcs of_routers of_arcs = grind (arith, common_steps)

-- the two interfaces that the pair has are joined, and that is its metric
abbrev pub IsPairOf : Scenario → Pair → Type 0
IsPairOf s p = (back : Metric) × Joins s p.from p.from_iface p.to p.to_iface p.metric back

pair_joins : (s : Scenario) (p : Pair) → Contains (pairs_in s) p → IsPairOf s p
pair_joins s p c =
    let (arc, there, joined, e) = picked_from pair_of (is_joint s) s.arcs p c in
    let (admitted, met) = and_parts (is_admitted s.routers s.end arc) (is_met s.routers s.end s.arcs arc) joined in
    let (back, stands, ((((from, from_iface), to), to_iface), home)) = (Decides-is_met s arc).0 met in
    subst (λ (x : Pair). IsPairOf s x) e (
      back.metric,
      record {
        out = (arc, there, refl, refl, refl, refl, refl);
        home = (back, stands, from, from_iface, to, to_iface, refl);
        out_admitted = admitted_arc s arc.from arc.from_iface arc.to arc.to_iface arc refl refl refl refl admitted;
        home_admitted = admitted_arc s arc.to arc.to_iface arc.from arc.from_iface back from from_iface to to_iface home;
      },
    )

joins_pair : (s : Scenario) (p : Pair) → IsPairOf s p → Contains (pairs_in s) p
joins_pair s p (_, joins) =
    let (arc, there, from, from_iface, to, to_iface, metric) = joins.out in
    let (back, stands, b_from, b_from_iface, b_to, b_to_iface, _) = joins.home in
    let home : is_admitted s.routers s.end back ≡ true = admits_arc s p.to p.to_iface p.from p.from_iface back b_from b_from_iface b_to b_to_iface joins.home_admitted in
    let admitted : is_admitted s.routers s.end arc ≡ true = admits_arc s p.from p.from_iface p.to p.to_iface arc from from_iface to to_iface joins.out_admitted in
    let met : is_met s.routers s.end s.arcs arc ≡ true =
    (Decides-is_met s arc).1 (back, stands, ((((b_from ∙ sym to, b_from_iface ∙ sym to_iface), b_to ∙ sym from), b_to_iface ∙ sym from_iface), home)) in
    let joint : is_joint s arc ≡ true = rw (admitted, met) refl in
    subst (λ (x : Pair). Contains (pairs_in s) x) (same_pair arc p from from_iface to to_iface metric)
    (contains_map pair_of (filter (is_joint s) s.arcs) arc (picked (is_joint s) s.arcs arc there joint))

pairs_once_by : (b : Bool) (arc : RadioArc) (rest : List RadioArc) → (Contains (map pair_of rest) (pair_of arc) → ⊥) → Once (map pair_of rest) → Once (map pair_of (cond b (arc ∷ rest) rest))
pairs_once_by b arc rest new once = grind (arith, common_steps, once_more)

pairs_once : (q : RadioArc → Bool) (arcs : List RadioArc) → are_distinct ends_eq (map ends_of arcs) ≡ true → Once (map pair_of (filter q arcs))
pairs_once q [] h = λ k l a at to. none_is_some at
pairs_once q (arc ∷ arcs) h =
    let (new, rest) = and_parts (not (list_any (ends_eq (ends_of arc)) (map ends_of arcs))) (are_distinct ends_eq (map ends_of arcs)) h in
    pairs_once_by (q arc) arc (filter q arcs) (λ c. again new c) (pairs_once q arcs rest)
  where
    again : not (list_any (ends_eq (ends_of arc)) (map ends_of arcs)) ≡ true → Contains (map pair_of (filter q arcs)) (pair_of arc) → ⊥
    again new c =
        let (other, there, _, e) = picked_from pair_of q arcs (pair_of arc) c in
        let same : ends_eq (ends_of arc) (ends_of other) ≡ true = same_ends arc other (ap (λ (p : Pair). p.from) (sym e)) (ap (λ (p : Pair). p.from_iface) (sym e)) (ap (λ (p : Pair). p.to) (sym e)) (ap (λ (p : Pair). p.to_iface) (sym e)) in
        absurd (not_both (list_any (ends_eq (ends_of arc)) (map ends_of arcs)) (any_of (ends_eq (ends_of arc)) (map ends_of arcs) (ends_of other) same (contains_map ends_of arcs other there)) new)

-- the pairs of a scenario join its routers
pub pair_inside : (s : Scenario) (p : Pair) → Contains (pairs_in s) p → IsInside (length s.routers) p
pair_inside s p c =
    let (back, joins) = pair_joins s p c in
    let (_, (r, at), (q, to)) = (sound_scenario s).ends p.from p.from_iface p.to p.to_iface p.metric joins.out in
    record { first = slice_get_within s.routers p.from r at; second = slice_get_within s.routers p.to q to }

-- Parts at the start

pub start_parts : (pairs : List Pair) (count : ℕ) → IsParts pairs (range_with_len 0 count)
start_parts pairs count = record {
  chained = λ x l. subst (λ (n : ℕ). Chain pairs n x) (sym (own x l)) Start;
  least = λ x l. let e : slice_index (range_with_len 0 count) x ≡ x = own x l in omega arith;
}
  where
    own : (x : ℕ) → x < length (range_with_len 0 count) → slice_index (range_with_len 0 count) x ≡ x
    own x l = let is : slice_index (range_with_len 0 count) x ≡ 0 + x = get_or-range_with_len 0 count x 0 (omega (arith, length-range_with_len 0 count)) in omega arith

-- A part that gets lower

sum_less : (xs : List ℕ) (i v : ℕ) → i < length xs → v < slice_index xs i → sum (slice_set xs i v) < sum xs
sum_less xs i v l less = omega (arith, sum_by-set (λ (n : ℕ). n) xs i v 0 l)

module _ (pairs : List Pair) (old : List ℕ) (p : Pair) (inside : IsInside (length old) p) (less : slice_index old p.from < slice_index old p.to) where
  abbrev lowered : List ℕ
  lowered = slice_set old p.to (slice_index old p.from)

  at : (x : ℕ) → ((x ≡ p.to) × (slice_index lowered x ≡ slice_index old p.from)) ⊎ (slice_index lowered x ≡ slice_index old x)
  at x = grind (arith, common_steps, cases_eq)

  lowered_parts : Contains pairs p → IsParts pairs old → IsParts pairs lowered
  lowered_parts there parts = record {
    chained = λ x l. elim (at x) [
      | inl (e, is) ↦ subst (λ (n : ℕ). Chain pairs n x) (sym is) (On p (parts.chained p.from inside.first) there refl (sym e))
      | inr is ↦ subst (λ (n : ℕ). Chain pairs n x) (sym is) (parts.chained x (omega (arith, length-set old p.to (slice_index old p.from))))
    ];
    least = λ x l. elim (at x) [
      | inl (e, is) ↦ omega (arith, parts.least p.to inside.second)
      | inr is ↦ omega (arith, parts.least x (omega (arith, length-set old p.to (slice_index old p.from))))
    ];
  }

-- A round

goes_lower : (changed : Bool) (old before new : List ℕ) (pairs : List Pair) (i : ℕ) → sum new < sum before → Goes changed old pairs i before → Goes true old pairs (i + 1) new
goes_lower changed old before new pairs i less gone = grind (arith, common_steps, sum)

goes_level : (changed : Bool) (old before new : List ℕ) (pairs : List Pair) (i : ℕ) (p : Pair) → p ≡ slice_index_or pairs i p → i < length pairs → new ≡ before → IsLevel new p → Goes changed old pairs i before → Goes changed old pairs (i + 1) new
goes_level true old before new pairs i p is l same level gone = subst (λ (xs : List ℕ). sum xs < sum old) (sym same) gone
goes_level false old before new pairs i p is l same level (e, all) = grind (arith, common_steps, AllWithin-more, at_read)

-- a pair of the round is tried
pub goes_on : (changed after lower : Bool) (old before new : List ℕ) (pairs : List Pair) (i : ℕ) (p : Pair) → p ≡ slice_index_or pairs i p → i < length pairs → IsInside (length before) p →
    IsParts pairs before → Goes changed old pairs i before → Lowers lower before p new → ((lower ≡ true) × (after ≡ true)) ⊎ ((lower ≡ false) × (after ≡ changed)) → IsParts pairs new × Goes after old pairs (i + 1) new
goes_on changed after true old before new pairs i p is l inside parts gone (e, less) (inl (_, then)) =
    let fewer : sum new < sum before = subst (λ (xs : List ℕ). sum xs < sum before) (sym e) (sum_less before p.to (slice_index before p.from) inside.second less) in (
      subst (λ (xs : List ℕ). IsParts pairs xs) (sym e) (lowered_parts pairs before p inside less (item_in pairs i p is l) parts),
      subst (λ (b : Bool). Goes b old pairs (i + 1) new) (sym then) (goes_lower changed old before new pairs i fewer gone),
    )
goes_on changed after true old before new pairs i p is l inside parts gone lowers (inr (e, _)) = absurd (cc)
goes_on changed after false old before new pairs i p is l inside parts gone lowers (inl (e, _)) = absurd (cc)
goes_on changed after false old before new pairs i p is l inside parts gone (same, level) (inr (_, then)) = grind (arith, common_steps, goes_level)

-- The radio graph

module _ (s : Scenario) (parts : List ℕ) (count : length parts ≡ length s.routers) (are : IsParts (pairs_in s) parts) (level : (p : Pair) → Contains (pairs_in s) p → IsLevel parts p) where
  adjacent_level : (v w : ℕ) → Adjacent s v w → slice_index parts v ≤ slice_index parts w
  adjacent_level v w (i, j, there, back, joins) =
      level (record { from = w; from_iface = j; to = v; to_iface = i; metric = back }) (joins_pair s (record { from = w; from_iface = j; to = v; to_iface = i; metric = back }) (there, joins_back joins))

  joined_level : (x y : ℕ) → Joined s x y → slice_index parts x ≤ slice_index parts y
  joined_level x y Itself = omega arith
  joined_level x y (By {v = v} chain last) = omega (arith, joined_level x v chain, adjacent_level v y last)

  chain_joined : (x y : ℕ) → Chain (pairs_in s) x y → Joined s x y
  chain_joined x y Start = Itself
  chain_joined x y (On {y = v} p chain there from to) =
      let (back, joins) = pair_joins s p there in
      let near : Adjacent s p.from p.to = (p.from_iface, p.to_iface, p.metric, back, joins) in
      let before : Adjacent s v p.to = subst (λ (n : ℕ). Adjacent s n p.to) from near in
      By (chain_joined x v chain) (subst (λ (n : ℕ). Adjacent s v n) to before)

  part_of : (x part : ℕ) → slice_get parts x ≡ Some part → Joined s x part × ((y : ℕ) → Joined s x y → part ≤ y)
  part_of x part at =
      let l : x < length parts = slice_get_within parts x part at in
      let is : slice_index parts x ≡ part = get_or_from_slice_get parts x part 0 at in (
        joined_back s part x (chain_joined part x (subst (λ (n : ℕ). Chain (pairs_in s) n x) is (are.chained x l))),
        λ y joined. let in_y : y < length parts = subst (λ (n : ℕ). y < n) (sym count) (joined_inside s x y (subst (λ (n : ℕ). x < n) count l) joined) in omega (arith, joined_level x y joined, are.least y in_y),
      )

  pub radio_graph_of : (pairs : List Pair) → pairs ≡ pairs_in s → IsRadioGraph s (record { pairs = pairs; parts = parts })
  radio_graph_of pairs e = subst (λ (ps : List Pair). IsRadioGraph s (record { pairs = ps; parts = parts })) (sym e) (record {
    pairs = λ p. (pair_joins s p, joins_pair s p);
    once = pairs_once (is_joint s) s.arcs s.sound_arcs.distinct;
    routers = count;
    parts = part_of;
  })
