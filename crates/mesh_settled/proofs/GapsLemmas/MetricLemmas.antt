-- The metric from one router to another.
use Rattle.mesh_settled.proofs.Common.{◌≡◌, ℕ, zero, suc, ◌+◌, ◌≤◌, ◌⊎◌, inl, inr, refl, ◌∙◌, ap, subst, arith, length, List, Option, Some, None, Bool, true, false, cond, nat_lt, nat_eq, slice_get, common_steps, false≢true, cases_eq, eqb-true, eq-eqb, ltb-true, ltb-false, slice_get_cases, Pair, RadioGraph, Metric, Scenario, metric_value, IsValue, Joins, IsMetric, IsRadioGraph, less, cheaper, IsLeading, IsLeastMetricOf, contains_at, place_of as place_in, same_some}

module _ (pairs : List Pair) (y z n : ℕ) (e : Pair) (at : slice_get pairs n ≡ Some e) where
  leads_more : (f : Pair) → IsLeading pairs y z n f → IsLeading pairs y z (n + 1) f
  leads_more f w = (w.0, omega (arith, w.1), w.2, w.3, w.4)

  leads_less : (f : Pair) → IsLeading pairs y z (n + 1) f → IsLeading pairs y z n f ⊎ (e ≡ f)
  leads_less f w = grind (arith, common_steps, cases_eq, same_some, slice_get)

  passed : (best : Option Metric) → ((e.from ≡ y) → (e.to ≡ z) → ⊥) → IsLeastMetricOf pairs y z n best → IsLeastMetricOf pairs y z (n + 1) best
  passed None none p = λ f w. elim (leads_less f w) [ inl h ↦ p f h | inr same ↦ none (ap (λ (g : Pair). g.from) same ∙ w.3) (ap (λ (g : Pair). g.to) same ∙ w.4) ]
  passed (Some m) none p = (
    (p.0.0, leads_more p.0.0 p.0.1, p.0.2),
    λ f w. elim (leads_less f w) [ inl h ↦ p.1 f h | inr same ↦ absurd (none (ap (λ (g : Pair). g.from) same ∙ w.3) (ap (λ (g : Pair). g.to) same ∙ w.4)) ],
  )

  taken : (best : Option Metric) → e.from ≡ y → e.to ≡ z → IsLeastMetricOf pairs y z n best → IsLeastMetricOf pairs y z (n + 1) (less best e.metric)
  taken None from to p = (
    (e, (n, omega arith, at, from, to), refl),
    λ f w. elim (leads_less f w) [ inl h ↦ absurd (p f h) | inr same ↦ subst (λ (g : Pair). metric_value e.metric ≤ metric_value g.metric) same (omega arith) ],
  )
  taken (Some m) from to p = by_case (nat_lt (metric_value e.metric) (metric_value m)) refl
    where
      by_case : (b : Bool) → nat_lt (metric_value e.metric) (metric_value m) ≡ b → IsLeastMetricOf pairs y z (n + 1) (cond b (Some e.metric) (Some m))
      by_case true is = (
        (e, (n, omega arith, at, from, to), refl),
        λ f w. elim (leads_less f w) [
          | inl h ↦ let low = p.1 f h in let under = ltb-true _ _ is in omega (arith, low, under)
          | inr same ↦ subst (λ (g : Pair). metric_value e.metric ≤ metric_value g.metric) same (omega arith)
        ],
      )
      by_case false is = (
        (p.0.0, leads_more p.0.0 p.0.1, p.0.2),
        λ f w. elim (leads_less f w) [
          | inl h ↦ p.1 f h
          | inr same ↦ subst (λ (g : Pair). metric_value m ≤ metric_value g.metric) same (ltb-false _ _ is)
        ],
      )

  pub one_pair : (best : Option Metric) → IsLeastMetricOf pairs y z n best → IsLeastMetricOf pairs y z (n + 1) (cheaper best y z e)
  one_pair best p = grind (arith, common_steps, nat_eq, cond, passed, false≢true, eq-eqb, taken, eqb-true)

pub no_pair : (pairs : List Pair) (y z : ℕ) → IsLeastMetricOf pairs y z 0 None
no_pair pairs y z = λ e w. omega (arith, w.1)

pub all_pairs : (pairs : List Pair) (y z n : ℕ) (best : Option Metric) → length pairs ≤ n → n ≤ length pairs → IsLeastMetricOf pairs y z n best → IsLeastMetricOf pairs y z (length pairs) best
all_pairs pairs y z n best up down p = subst (λ (k : ℕ). IsLeastMetricOf pairs y z k best) (antisym n (length pairs) up down) p
  where
    antisym : (n m : ℕ) → m ≤ n → n ≤ m → n ≡ m
    antisym n m up down = omega arith

-- there is a least metric, or no pair leads there
cheapest_of : (pairs : List Pair) (y z n : ℕ) → n ≤ length pairs → (o : Option Metric) × IsLeastMetricOf pairs y z n o
cheapest_of pairs y z zero few = (None, no_pair pairs y z)
cheapest_of pairs y z (suc n) few =
    let (o, least) = cheapest_of pairs y z n (omega arith) in
    let next : n + 1 ≡ suc n = omega arith in
    elim ((slice_get_cases pairs n).1) [
      | inl there ↦ let p = cheaper o y z there.0 in (p, subst (λ (k : ℕ). IsLeastMetricOf pairs y z k p) next (one_pair pairs y z n there.0 there.2 o least))
      | inr past ↦ let end = past.0 in absurd (omega (arith, few, end))
    ]

module _ (s : Scenario) (g : RadioGraph) (is : IsRadioGraph s g) (y z : ℕ) where
  of_joins : (i j : ℕ) (there back : Metric) → Joins s y i z j there back → (e : Pair) × IsLeading g.pairs y z (length g.pairs) e × (e.metric ≡ there)
  of_joins i j there back joins =
      let pair : Pair = record { from = y; from_iface = i; to = z; to_iface = j; metric = there } in
      let w = place_in g.pairs pair ((is.pairs pair).1 (back, joins)) in
      (pair, (w.0, w.1, w.2, refl, refl), refl)

  pub metric_is : (o : Option Metric) → IsLeastMetricOf g.pairs y z (length g.pairs) o → IsValue (IsMetric s y z) o
  metric_is None none = λ m h. let (i, j, back, joins) = h.some in let w = of_joins i j m back joins in none w.0 w.1
  metric_is (Some m) some =
      let e = some.0.0 in
      let w = some.0.1 in
      let h = (is.pairs e).0 (contains_at g.pairs w.0 e w.2) in record {
        some = (e.from_iface, e.to_iface, h.0, rw (← w.3, ← w.4, ← some.0.2) h.1);
        least = λ i j there back joins. let o = of_joins i j there back joins in subst (λ (k : Metric). metric_value m ≤ metric_value k) o.2 (some.1 o.0 o.1);
      }

  -- two adjacent routers have a metric
  pub has_metric : (i j : ℕ) (there back : Metric) → Joins s y i z j there back → (m : Metric) × IsMetric s y z m
  has_metric i j there back joins = let c = cheapest_of g.pairs y z (length g.pairs) (omega arith) in by_case c.0 c.1
    where
      by_case : (o : Option Metric) → IsLeastMetricOf g.pairs y z (length g.pairs) o → (m : Metric) × IsMetric s y z m
      by_case None none = let w = of_joins i j there back joins in absurd (none w.0 w.1)
      by_case (Some m) some = (m, metric_is (Some m) some)
