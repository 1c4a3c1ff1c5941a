-- The empty neighbourhood is sound.
use Rattle.mesh_nhdp.proofs.Common.{◌≡◌, ℕ, ◌<◌, inl, inr, refl, sym, ◌∙◌, ap, subst, arith, List, [], ◌∷◌, length, replicate, Contains, Some, slice_index_or, IsDistinct, get_or-replicate, get_or_past, length-replicate, cases_lt, Addr4, RouterSettings, TwoHopKey, TwoHop, Base, base_of, find, HasDistinctKeys, link_eq, two_hop_eq, LinkKey, Link, admit_on, Neighbourhood, IsHeld, AreMoreThan, SoundNeighbourhood, none_is_some, empty_near}

pub empty_base : {K V : Type 0} (count i : ℕ) → slice_index_or (replicate count (let none : Base K V = [] in none)) i [] ≡ []
empty_base {K} {V} count i = elim (cases_lt i count) [
  | inl lt ↦ get_or-replicate count i [] [] lt
  | inr past ↦ get_or_past (replicate count (let none : Base K V = [] in none)) i [] (let e : length (replicate count (let none : Base K V = [] in none)) ≡ count = length-replicate count [] in omega (arith, e, past))
]

-- nothing stands in an empty base
none_in : {K V B : Type 0} (eq : K → K → _) (base : Base K V) (key : K) (e : V × ℕ) → base ≡ [] → find eq base key ≡ Some e → B
none_in eq base key e empty at = none_is_some (sym (ap (λ b. find eq b key) empty) ∙ at)

no_addresses : (count : ℕ) → AreMoreThan 1024 (IsHeld (empty_near count)) → ⊥
no_addresses count more =
    let (some, distinct, all, many) = more in
    first some all many
  where
    none_held : (a : Addr4) → IsHeld (empty_near count) a → ⊥
    none_held a (inl h) = none_is_some h.1
    none_held a (inr (inl h)) = none_is_some h.3
    none_held a (inr (inr h)) = none_is_some h.1

    first : (some : List Addr4) → ((a : Addr4) → Contains some a → IsHeld (empty_near count) a) → 1024 < length some → ⊥
    first [] all many = absurd (omega (arith, many))
    first (a ∷ some) all many = none_held a (all a (0, omega arith, refl))

pub empty_sound : (settings : RouterSettings) (moment count : ℕ) (near : Neighbourhood) → count ≡ length settings.interfaces → near ≡ empty_near count → SoundNeighbourhood settings moment near
unfolding IsDistinct
empty_sound settings moment count near counts is = subst (λ (n : Neighbourhood). SoundNeighbourhood settings moment n) (sym is) (record {
  interfaces = length-replicate count [] ∙ counts;
  two_hop_interfaces = length-replicate count [] ∙ counts;
  distinct_links = λ i. subst (λ base. HasDistinctKeys link_eq base) (sym (empty_base count i)) tt;
  distinct_neighbours = tt;
  distinct_losts = tt;
  fresh_links = λ i key link until at. none_in link_eq (base_of (replicate count []) i) key (link, until) (empty_base count i) at;
  fresh_neighbours = λ key n until at. none_is_some at;
  fresh_losts = λ key e until at. none_is_some at;
  two_hops = λ i. record {
    distinct = subst (λ base. HasDistinctKeys two_hop_eq base) (sym (empty_base count i)) tt;
    limit = let e : length (base_of (replicate count (let none : Base TwoHopKey TwoHop = [] in none)) i) ≡ 0 = ap (λ (base : Base TwoHopKey TwoHop). length base) (empty_base count i) in omega (arith, e);
    fresh = λ key t until at. none_in two_hop_eq (base_of (replicate count []) i) key (t, until) (empty_base count i) at;
  };
  limit = no_addresses count;
  link = λ i key link until at. none_in link_eq (base_of (replicate count []) i) key (link, until) (empty_base count i) at;
  by_quality = λ i key. subst (λ (base : Base LinkKey Link). admit_on settings i moment (find link_eq base key) ≡ find link_eq base key) (sym (empty_base count i)) refl;
  links_apart = λ i k l e f a at to has as_well. none_in link_eq (base_of (replicate count []) i) k e (empty_base count i) at;
  owner = λ i key link until at. none_in link_eq (base_of (replicate count []) i) key (link, until) (empty_base count i) at;
  neighbour = λ o n until at. none_is_some at;
  neighbours_apart = λ o p e f a at to has as_well. none_is_some at;
  two_hop = λ i key t at. none_in two_hop_eq (base_of (replicate count []) i) key t (empty_base count i) at;
  lost = λ a e at is. none_is_some at;
  lost_not_mine = λ a e at mine. none_is_some at;
})

-- the same of its parts
pub empty_parts : (settings : RouterSettings) (moment count : ℕ) (near : Neighbourhood) → count ≡ length settings.interfaces → near.links ≡ replicate count [] →
    near.two_hops ≡ replicate count [] → near.neighbours ≡ [] → near.losts ≡ [] → SoundNeighbourhood settings moment near
empty_parts settings moment count near counts links two_hops neighbours losts = empty_sound settings moment count near counts
    (ap (λ l. let n : Neighbourhood = record near { links = l } in n) links
    ∙ ap (λ t. let n : Neighbourhood = record near { links = replicate count []; two_hops = t } in n) two_hops
    ∙ ap (λ m. let n : Neighbourhood = record { links = replicate count []; two_hops = replicate count []; neighbours = m; losts = near.losts } in n) neighbours
    ∙ ap (λ m. let n : Neighbourhood = record { links = replicate count []; two_hops = replicate count []; neighbours = []; losts = m } in n) losts)
