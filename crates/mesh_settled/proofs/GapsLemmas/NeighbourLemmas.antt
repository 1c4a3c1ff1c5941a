-- Neighbours on both sides.
use Rattle.mesh_settled.proofs.Common.{◌≡◌, ℕ, ◌+◌, ◌<◌, ◌≤◌, ◌⊎◌, inl, inr, refl, sym, ◌∙◌, ap, subst, arith, length, List, Contains, Option, Some, None, Bool, true, false, cond, nat_lt, map, ◌↔◌, IsTrue, is_some, common_steps, false≢true, cases_eq, ltb-true, ltb-false, none-some, slice_get_within, Addr4, RadioGraph, Metric, RouterSettings, Scenario, HasDistinctKeys, addr_eq, Says, Routing, IsMetric, At, IsNeighbourOf, State, HasAddress, HasAddressOn, IsOriginator, neighbour_at, looks_up_neighbours, sound_scenario, originator_address, Found, GapKey, Neighbour as Of_neighbour, Field, AllSame, neighbour_fields, IsSide, IsLeastGap, IsLeastMissing, lesser, least_of, Look, look, IsHeldTuple, IsPresentTuple, IsHeldNeighbour, IsPresentNeighbour, all_addresses, IsNetwork, given_tuple, given_fields, IsNear, IsGivenNear, IsNeighbourHeld, IsOriginatorOf, IsOriginatorBelow, IsNeighbourKey, same_some, place_of as place_in, one_originator, same_addr as addr_is}
use Rattle.mesh_atoms.specs.declared.tuples.Neighbour.{Neighbour}
use Rattle.mesh_settled.specs.declared.gaps.neighbours.GivenNeighbour.{GivenNeighbour}
use Rattle.mesh_settled.specs.Gaps.Neighbours.{symmetric_fields, IsGivenAt}
use Rattle.mesh_settled.proofs.GapsLemmas.GapLaw.{all_are, neighbours_alike}
use Rattle.mesh_settled.proofs.GapsLemmas.JointLemmas.{same_state, next_place}
use Rattle.mesh_settled.proofs.GapsLemmas.Leasts.{least_as, least_all, least_lesser}
use Rattle.mesh_settled.proofs.GapsLemmas.PeerLemmas.{within}
use Rattle.mesh_settled.proofs.GapsLemmas.Sides.{all_self}

-- The least address that a list hasn't

module _ (list : List Addr4) (P Q : Addr4 → Type 0) where
  pub least_either : (best next : Option Addr4) → IsLeastMissing P list best → IsLeastMissing Q list next → IsLeastMissing (λ a. P a ⊎ Q a) list (least_of best next)
  least_either None None p q = λ a w. elim w [ inl h ↦ p a h | inr h ↦ q a h ]
  least_either (Some c) None p q = (inl p.0, p.1, λ a w missing. elim w [ inl h ↦ p.2 a h missing | inr h ↦ absurd (missing (q a h)) ])
  least_either None (Some b) p q = (inr q.0, q.1, λ a w missing. elim w [ inl h ↦ absurd (missing (p a h)) | inr h ↦ q.2 a h missing ])
  least_either (Some c) (Some b) p q = grind (arith, common_steps, nat_lt, cond, ltb-true, ltb-false)

  pub missing_as : ((a : Addr4) → P a → Q a) → ((a : Addr4) → Q a → P a) → (o : Option Addr4) → IsLeastMissing P list o → IsLeastMissing Q list o
  missing_as there back o p = grind (arith, common_steps)

pub is_own : (r : RouterSettings) (a : Addr4) (b : Bool) → IsTrue b ↔ HasAddress r a → IsTrue b ↔ Contains (all_addresses r.interfaces) a
is_own r a b test = (λ e. (all_are r a).1 (test.0 e), λ h. test.1 ((all_are r a).0 h))

-- an address of one of the first interfaces
abbrev pub HasBefore : RouterSettings → ℕ → Addr4 → Type 0
HasBefore r n a = (k : ℕ) × (k < n) × HasAddressOn r k a

pub face_step : (r : RouterSettings) (list addrs : List Addr4) (i : ℕ) (best next : Option Addr4) → ((a : Addr4) → Contains addrs a ↔ HasAddressOn r i a) → IsLeastMissing (HasBefore r i) list best →
    IsLeastMissing (λ a. Contains addrs a) list next → IsLeastMissing (HasBefore r (i + 1)) list (least_of best next)
face_step r list addrs i best next on p q =
    missing_as list (λ a. HasBefore r i a ⊎ Contains addrs a) (HasBefore r (i + 1))
    (λ a w. elim w [ inl h ↦ (h.0, omega (arith, h.1), h.2) | inr h ↦ (i, omega arith, (on a).0 h) ])
    (λ a w. elim (cases_eq w.0 i) [ inl same ↦ inr ((on a).1 (subst (λ (k : ℕ). HasAddressOn r k a) same w.2)) | inr other ↦ inl (w.0, omega (arith, w.1), w.2) ])
    (least_of best next) (least_either list (HasBefore r i) (λ a. Contains addrs a) best next p q)

pub face_end : (r : RouterSettings) (list : List Addr4) (n : ℕ) (best : Option Addr4) → length r.interfaces ≤ n → IsLeastMissing (HasBefore r n) list best →
    IsLeastMissing (λ a. Contains (all_addresses r.interfaces) a) list best
face_end r list n best end p =
    missing_as list (HasBefore r n) (λ a. Contains (all_addresses r.interfaces) a) (λ a w. (all_are r a).1 (w.0, w.2))
    (λ a w. let h = (all_are r a).0 w in let less = slice_get_within r.interfaces h.0 h.1.0 h.1.1 in (h.0, omega (arith, less), h.1)) best p

-- What is held

module _ (p : State) (o : Addr4) (distinct : HasDistinctKeys addr_eq p.bases.neighbourhood.neighbours) where
  is_it : (e : Neighbour × ℕ) → neighbour_at p.bases.neighbourhood o ≡ Some e → (fs : List Field) (w : IsHeldNeighbour p o fs) → w.0 ≡ e.0
  is_it e is fs w = let f = (looks_up_neighbours p o w.0 distinct).0 w.1.0 in ap (λ (x : Neighbour × ℕ). x.0) (same_some f.1 is)

  by_flag : (e : Neighbour × ℕ) → neighbour_at p.bases.neighbourhood o ≡ Some e → (b : Bool) → e.0.symmetric ≡ b → IsSide (IsHeldNeighbour p o) (cond b (Some (neighbour_fields e.0)) None)
  by_flag e is true symmetric = (
    (e.0, ((looks_up_neighbours p o e.0 distinct).1 (e.1, is), symmetric), refl),
    λ gs w. subst (λ (hs : List Field). AllSame hs (neighbour_fields e.0)) (sym (w.2 ∙ ap neighbour_fields (is_it e is gs w))) (all_self (neighbour_fields e.0)),
  )
  by_flag e is false other = λ fs w. false≢true (sym other ∙ subst (λ (n : Neighbour). IsTrue n.symmetric) (is_it e is fs w) w.1.1)

  by_found : (e : Option (Neighbour × ℕ)) → neighbour_at p.bases.neighbourhood o ≡ e → IsSide (IsHeldNeighbour p o) (symmetric_fields e)
  by_found None is = λ fs w. let f = (looks_up_neighbours p o w.0 distinct).0 w.1.0 in none-some (w.0, f.0) (sym is ∙ f.1)
  by_found (Some e) is = by_flag e is e.0.symmetric refl

  pub held_side : IsSide (IsHeldNeighbour p o) (symmetric_fields (neighbour_at p.bases.neighbourhood o))
  held_side = by_found (neighbour_at p.bases.neighbourhood o) refl

-- What is given

-- one of the addresses of interface i is shown as a routing relay's
abbrev pub SaysOn : State → ℕ → RouterSettings → ℕ → Type 0
SaysOn q now r i = (a : Addr4) × HasAddressOn r i a × Says q 0 now a Routing

pub shows_on : (q : State) (now : ℕ) (r : RouterSettings) (i : ℕ) (addrs : List Addr4) (b : Bool) → ((a : Addr4) → Contains addrs a ↔ HasAddressOn r i a) →
    IsTrue b ↔ ((a : Addr4) × Contains addrs a × Says q 0 now a Routing) → IsTrue b ↔ SaysOn q now r i
shows_on q now r i addrs b on test = (λ e. let w = test.0 e in (w.0, (on w.0).0 w.1, w.2), λ w. test.1 (w.0, (on w.0).1 w.1, w.2))

pub some_shows : (q : State) (now : ℕ) (r : RouterSettings) (i : ℕ) → SaysOn q now r i → IsTrue true ↔ ((a : Addr4) × HasAddress r a × Says q 0 now a Routing)
some_shows q now r i w = (λ _. (w.0, (i, w.1), w.2), λ _. refl)

pub none_shows : (q : State) (now : ℕ) (r : RouterSettings) (n : ℕ) → length r.interfaces ≤ n → ((k : ℕ) → k < n → SaysOn q now r k → ⊥) → IsTrue false ↔ ((a : Addr4) × HasAddress r a × Says q 0 now a Routing)
none_shows q now r n end none = (
  λ e. absurd (false≢true e),
  λ w. let h = w.1 in let less = slice_get_within r.interfaces h.0 h.1.0 h.1.1 in absurd (none h.0 (omega (arith, less)) (w.0, h.1, w.2)),
)

pub near_is : (l : Look) (y : ℕ) (q : State) (g : GivenNeighbour) (mine : RouterSettings) → g.settings.now ≡ q.settings → mine ≡ l.p.settings → IsMetric l.s l.x y g.metric_out → IsMetric l.s y l.x g.metric_in →
    IsTrue g.selector ↔ ((a : Addr4) × HasAddress mine a × Says q 0 l.now a Routing) → IsNear l y q g
near_is l y q g mine same mine_is there back test = record {
  settings = same;
  there = there;
  back = back;
  selector = (
    λ e. let w = test.0 e in (w.0, subst (λ (r : RouterSettings). HasAddress r w.0) mine_is w.1, w.2),
    λ w. test.1 (w.0, subst (λ (r : RouterSettings). HasAddress r w.0) (sym mine_is) w.1, w.2),
  );
}

pub its_originator : (r : RouterSettings) (own a : Addr4) → IsOriginator r own → own.0 ≡ a.0 → IsOriginator r a
its_originator r own a is e = subst (IsOriginator r) (addr_is own a e) is

pub given_here : (l : Look) (o : Addr4) (y : ℕ) (q : State) (at : At l.states y q) (settings : RouterSettings) → settings ≡ q.settings → IsOriginator settings o → (g : Option GivenNeighbour) → IsGivenNear l y q g → IsGivenAt l o y g
given_here l o y q at settings same origin None none = λ r there back at_r is m n. none there back m n
given_here l o y q at settings same origin (Some g) near = (q, at, subst (λ (r : RouterSettings). IsOriginator r o) same origin, near)

module _ (s : Scenario) (graph : RadioGraph) (states : List State) (now x : ℕ) (p : State) (net : IsNetwork s graph states now) (here : At states x p) (o : Addr4) where
  abbrev l : Look
  l = look s states now x p

  module _ (y : ℕ) (g : GivenNeighbour) (w : IsGivenAt l o y (Some g)) where
    is_near : IsNeighbourOf p w.0 now g.metric_out g.metric_in o (given_tuple g)
    is_near =
        let r = g.settings.now in
        let same = w.3.settings in record {
          originator_is = w.2;
          addresses = λ a. (λ h. subst (λ (t : RouterSettings). HasAddress t a) same ((all_are r a).0 h), λ h. (all_are r a).1 (subst (λ (t : RouterSettings). HasAddress t a) (sym same) h));
          willing = ap (λ (t : RouterSettings). t.willing) same;
          metric_in = refl;
          metric_out = refl;
          selector = λ j. w.3.selector;
        }

    one_given : (gs : List Field) → IsPresentNeighbour l o gs → AllSame gs (neighbour_fields (given_tuple g))
    one_given gs (z, r, there, back, t, at_z, m, n, is, same) =
        let mine = originator_address w.0.settings o w.2 in
        let theirs = originator_address r.settings o is.originator_is in
        let ends = (sound_scenario s).addresses z y theirs.0 mine.0 r.settings w.0.settings o (net.routers.settings z r at_z) (net.routers.settings y w.0 w.1) theirs.1 mine.1 in
        subst (λ (hs : List Field). AllSame hs (neighbour_fields (given_tuple g))) (sym same) (alike z r there back t at_z m n is ends.0)
      where
        alike : (z : ℕ) (r : State) (there back : Metric) (t : Neighbour) → At states z r → IsMetric s x z there → IsMetric s z x back → IsNeighbourOf p r now there back o t → z ≡ y → AllSame (neighbour_fields t) (neighbour_fields (given_tuple g))
        alike z r there back t at_z m n is to =
            let r_is : r ≡ w.0 = same_state (subst (λ (k : ℕ). At states k r) to at_z) w.1 in
            neighbours_alike s graph states now x p net here t (given_tuple g) (subst (λ (k : ℕ). IsMetric s x k there) to m) (subst (λ (k : ℕ). IsMetric s k x back) to n)
            (subst (λ (q : State). IsNeighbourOf p q now there back o t) r_is is) w.3.there w.3.back is_near

    given_side : IsSide (IsPresentNeighbour l o) (given_fields (Some g))
    given_side = ((y, w.0, g.metric_out, g.metric_in, given_tuple g, w.1, w.3.there, w.3.back, is_near, refl), one_given)

  pub some_given : (y : ℕ) (g : Option GivenNeighbour) → true ≡ is_some g → IsGivenAt l o y g → IsSide (IsPresentNeighbour l o) (given_fields g)
  some_given y None some w = absurd (false≢true (sym some))
  some_given y (Some g) some w = given_side y g w

pub none_given : (l : Look) (o : Addr4) (y : ℕ) (g : Option GivenNeighbour) → false ≡ is_some g → IsGivenAt l o y g → ((k : ℕ) → k < y → IsGivenAt l o k None) → (k : ℕ) → k < y + 1 → IsGivenAt l o k None
none_given l o y None none w before = next_place (λ n. IsGivenAt l o n None) y before w
none_given l o y (Some g) none w before = absurd (false≢true none)

pub never_given : {A : Type 0} (f : A → State) (routers : List A) (s : Scenario) (now x : ℕ) (p : State) (o : Addr4) (n : ℕ) → length routers ≤ n → ((k : ℕ) → k < n → IsGivenAt (look s (map f routers) now x p) o k None) →
    IsSide (IsPresentNeighbour (look s (map f routers) now x p) o) None
never_given f routers s now x p o n end none = λ gs w. let less = within f routers w.0 w.1 w.5 in none w.0 (omega (arith, less)) w.1 w.2 w.3 w.5 w.8.originator_is w.6 w.7

-- The keys that are looked at

module _ (l : Look) (states : List State) (y : ℕ) (q : State) (at : At states y q) (settings : RouterSettings) (same : settings ≡ q.settings) where
  pub key_of : (o : Addr4) → IsOriginator settings o → (f : Option Found) → IsLeastGap l (λ k. k ≡ Of_neighbour o) f → IsLeastGap l (IsOriginatorOf states y) f
  key_of o origin f least =
      let mine : IsOriginator q.settings o = subst (λ (r : RouterSettings). IsOriginator r o) same origin in
      least_as l (λ k. k ≡ Of_neighbour o) (IsOriginatorOf states y) (λ k is. (q, at, o, mine, is))
      (λ k w. w.4 ∙ ap (λ (a : Addr4). Of_neighbour a) (one_originator q.settings w.2 o (subst (λ (r : State). IsOriginator r.settings w.2) (same_state w.1 at) w.3) mine)) f least

module _ {A : Type 0} (f : A → State) (routers : List A) (s : Scenario) (now x : ℕ) (p : State) where
  abbrev seen : Look
  seen = look s (map f routers) now x p

  abbrev IsGiven : GapKey → Type 0
  IsGiven = IsOriginatorBelow (map f routers) (length routers)

  abbrev IsTried : GapKey → Type 0
  IsTried k = IsNeighbourHeld p k ⊎ IsGiven k

  held_tried : (k : GapKey) (fs : List Field) → IsNeighbourKey k → IsHeldTuple seen k fs → IsTried k
  held_tried k fs (o, same) holds =
      let h : IsHeldNeighbour p o fs = subst (λ (j : GapKey). IsHeldTuple seen j fs) same holds in
      let w = place_in p.bases.neighbourhood.neighbours (o, (h.0, h.1.0.0)) h.1.0.1 in
      inl (w.0, w.1, (o, (h.0, h.1.0.0), w.2, same))

  given_tried : (k : GapKey) (gs : List Field) → IsNeighbourKey k → IsPresentTuple seen k gs → IsTried k
  given_tried k gs (o, same) gives =
      let g : IsPresentNeighbour seen o gs = subst (λ (j : GapKey). IsPresentTuple seen j gs) same gives in
      inr (g.0, within f routers g.0 g.1 g.5, (g.1, g.5, o, g.8.originator_is, same))

  pub all_neighbours : (a b : Option Found) → IsLeastGap seen (IsNeighbourHeld p) a → IsLeastGap seen IsGiven b → IsLeastGap seen IsNeighbourKey (lesser a b)
  all_neighbours a b held given =
      least_all seen IsTried IsNeighbourKey (lesser a b) (λ k w. elim w [ inl h ↦ (h.2.0, h.2.3) | inr g ↦ (g.2.2, g.2.4) ]) held_tried given_tried
      (least_lesser seen (IsNeighbourHeld p) IsGiven a b held given)
