-- The greatest metric of routes.
use Rattle.mesh_emulate.proofs.Common.{common_steps, ◌≡◌, ℕ, ◌+◌, ◌<◌, ◌≤◌, List, [], ◌∷◌, ◌++◌, map, length, take, get_or, max, Some, sym, ap, ◌∙◌, arith, inl, inr, cases_lt, flat_map_more, map_more, All-push, All-weaker, Contains-append_left, Contains-append_right, State, metrics_of, IsGreatest}

greatest_same : (metrics : List ℕ) (greatest metric : ℕ) → IsGreatest metrics (Some greatest) → metric ≤ greatest →
    IsGreatest (metrics ++ metric ∷ []) (Some greatest)
greatest_same metrics greatest metric is le = grind (arith, common_steps, Contains-append_left, All-push)

greatest_more : (metrics : List ℕ) (greatest metric : ℕ) → IsGreatest metrics (Some greatest) → greatest ≤ metric →
    IsGreatest (metrics ++ metric ∷ []) (Some metric)
greatest_more metrics greatest metric is le = grind (arith, common_steps, Contains-append_right, All-push, All-weaker)

pub greatest_max : (metrics : List ℕ) (greatest metric : ℕ) → IsGreatest metrics (Some greatest) →
    IsGreatest (metrics ++ metric ∷ []) (Some (max greatest metric))
greatest_max metrics greatest metric is = elim (cases_lt greatest metric) [
  | inl less ↦
      let higher : max greatest metric ≡ metric = omega (arith, less) in
      rw higher (greatest_more metrics greatest metric is (omega (arith, less)))
  | inr more ↦
      let same : max greatest metric ≡ greatest = omega (arith, more) in
      rw same (greatest_same metrics greatest metric is more)
]

-- the metrics of one router more
pub metrics_more : {R : Type 0} (state : R → State) (routers : List R) (i : ℕ) (r : R) → i < length routers → r ≡ get_or routers i r →
    metrics_of (map state (take (i + 1) routers)) ≡ metrics_of (map state (take i routers)) ++ map (λ route. route.metric) (state r).routes
metrics_more {R} state routers i r within is =
    ap metrics_of (map_more state routers i r within ∙ ap (λ (s : R). map state (take i routers) ++ state s ∷ []) (sym is))
    ∙ sym (flat_map_more (λ (p : State). map (λ route. route.metric) p.routes) [] (map state (take i routers)) (state r))
