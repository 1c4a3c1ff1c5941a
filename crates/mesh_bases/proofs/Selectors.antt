-- The neighbours that have chosen a router as a routing relay.
use Rattle.mesh_bases.proofs.Common.{common_steps, ◌≡◌, ◌<◌, ℕ, inl, inr, refl, sym, ap, subst, arith, ◌∙◌, Bool, true, cond, List, [], Option, Some, None, ◌&&◌, Addr4, Metric, Neighbour, Base, State, Selector, HasSelector, IsSelectorOf, AreSelectors, Adds, GivenByElement, adds_start, adds_all, selector_metric, IsSelectorBy}
use Rattle.mesh_routes.proofs.Choosing.{adds_same}

abbrev metric_if : Bool → Bool → Option Metric → Option Metric
metric_if a b o = cond (a && b) o None

says : (a b : Bool) (o : Option Metric) (m : Metric) → metric_if a b o ≡ Some m → (a ≡ true) × (b ≡ true) × (o ≡ Some m)
says a b o m h = grind (arith, common_steps)

said : (a b : Bool) (o : Option Metric) (m : Metric) → a ≡ true → b ≡ true → o ≡ Some m → metric_if a b o ≡ Some m
said a b o m p q r = rw (p, q) r

-- one selector more
pub one_selector : (o : Addr4) (n : Neighbour) (m : Metric) (old new : List Selector) → selector_metric n ≡ Some m → Adds (λ (x : Selector). let y : Selector = record { originator = o; addrs = n.addrs; metric = m } in y ≡ x) old new →
    Adds (IsSelectorBy o n) old new
one_selector o n m old new known adds = adds_same old new (λ x is. (m, known, is))
    (λ x (k, known', is). let both : Some m ≡ Some k = sym known ∙ known' in let same : m ≡ k = cc in ap (λ (j : Metric). let y : Selector = record { originator = o; addrs = n.addrs; metric = j } in y) same ∙ is) adds

-- all of them
are : (s : State) (selectors : List Selector) → Adds (GivenByElement (λ (e : Addr4 × (Neighbour × ℕ)). IsSelectorBy e.0 e.1.0) s.bases.neighbourhood.neighbours) [] selectors → AreSelectors s selectors
are s selectors adds = record {
  each = λ x has. elim (adds.cases x has) [
    | inl none ↦ let l : none.0 < 0 = none.1 in absurd (omega arith)
    | inr (e, has_e, (m, known, is)) ↦
        let (symmetric, selects, out) = says e.1.0.symmetric e.1.0.selector e.1.0.metric_out m known in
        subst (λ (y : Selector). (n : Neighbour) × HasSelector s y.originator n y.metric × IsSelectorOf y y.originator n y.metric) is
        (e.1.0, (((e.1.1, has_e), symmetric), selects, out), (refl, refl, λ a. (λ h. h, λ h. h)))
  ];
  all = λ o n m (symmetric, selects, out).
      let x : Selector = record { originator = o; addrs = n.addrs; metric = m } in
      (x, adds.has x ((o, (n, symmetric.0.0)), symmetric.0.1, (m, said n.symmetric n.selector n.metric_out m symmetric.1 selects out, refl)), (refl, refl, λ a. (λ h. h, λ h. h)));
}

pub selectors_are : (s : State) (neighbours : Base Addr4 Neighbour) (selectors : List Selector) → s.bases.neighbourhood.neighbours ≡ neighbours →
    Adds (GivenByElement (λ (e : Addr4 × (Neighbour × ℕ)). IsSelectorBy e.0 e.1.0) neighbours) [] selectors → AreSelectors s selectors
selectors_are s neighbours selectors same adds = grind (arith, common_steps, are)

-- without neighbours there is none
pub no_selectors : (s : State) → s.bases.neighbourhood.neighbours ≡ [] → AreSelectors s []
no_selectors s none = grind (arith, common_steps, selectors_are, adds_all, adds_start)
