-- When what tuples hold is the same.
use Rattle.mesh_atoms.proofs.Common.{common_steps, ◌≡◌, ℕ, ◌≤◌, Option, ap, subst, ◌∙◌, arith, le_prop, Metric, metric_value}
use Rattle.mesh_atoms.specs.declared.hello.Willing.{Willing}
use Rattle.mesh_atoms.specs.declared.tuples.Neighbour.{Neighbour}
use Rattle.mesh_atoms.specs.Words.{IsLeastMetric}
use Rattle.mesh_atoms.proofs.CodesLemmas.CodeLaws.{cost-injective}
use Rattle.mesh_atoms.proofs.Rows.{same_metric}

-- one metric is the least of those that a property holds of
pub least_only : (P Q : Metric → Type 0) (x y : Option Metric) → ((m : Metric) → P m → Q m) → ((m : Metric) → Q m → P m) → IsLeastMetric P x → IsLeastMetric Q y → x ≡ y
least_only P Q x y to back h k = grind (arith, common_steps, metric_value, same_metric, cost-injective)

abbrev willing_of : (flooding routing : ℕ) → flooding ≤ 15 → routing ≤ 15 → Willing
willing_of flooding routing within routing_within = record { flooding = flooding; routing = routing; flooding_within = within; routing_within = routing_within }

pub same_willing : (a b : Willing) → a.flooding ≡ b.flooding → a.routing ≡ b.routing → a ≡ b
same_willing a b e f =
    let by_routing : (h : a.flooding ≤ 15) (k : b.routing ≤ 15) → a ≡ willing_of a.flooding b.routing h k =
    subst (λ (n : ℕ). (h : a.flooding ≤ 15) (k : n ≤ 15) → a ≡ willing_of a.flooding n h k) f
    (λ h k. ap (λ (x : a.flooding ≤ 15). willing_of a.flooding a.routing x a.routing_within) (le_prop a.flooding_within h) ∙ ap (λ (x : a.routing ≤ 15). willing_of a.flooding a.routing h x) (le_prop a.routing_within k)) in
    subst (λ (n : ℕ). (h : n ≤ 15) (k : b.routing ≤ 15) → a ≡ willing_of n b.routing h k) e by_routing b.flooding_within b.routing_within

pub same_neighbour : (a b : Neighbour) → a.addrs ≡ b.addrs → a.symmetric ≡ b.symmetric → a.metric_in ≡ b.metric_in → a.metric_out ≡ b.metric_out → a.willing ≡ b.willing → a.selector ≡ b.selector → a ≡ b
same_neighbour a b addrs symmetric metric_in metric_out willing selector = grind (arith, common_steps)
