-- Rules on addresses, by tests of what is kept: what the rules of a HELLO and of a TC have in common.
use Rattle.mesh_wire.proofs.Common.{arith, common_steps, ◌≡◌, ℕ, inl, inr, refl, sym, ap, Bool, true, false, List, Contains, Decides, Option, Some, list_any, cases_Bool, or_parts, or_cases, or_left, or_right, NetAddr, Decides-some, contains_at, MessageFields, AddressParts, MetricParts, RowParts, metric_at, MetricKind, Link_in, Link_out, Near_in, Near_out, metric_kinds, ShowsMetric, HasWrongMetric, has_wrong_metric, HoldsAddress, HasValue, is_conflict}
use Rattle.mesh_wire.proofs.FirstTest.{AtMost}
use Rattle.mesh_wire.proofs.Kept.{AreTold, told_of, says_has, differ_conflict, conflict_differ, metrics_told}
use Rattle.mesh_wire.proofs.Ruled.{Reaches}
use Rattle.mesh_wire.proofs.Slots.{RowIs}

-- what is kept of an address of the message passes a test of that number at most, so it breaks a rule
pub at_row : (m : MessageFields) (rows : List AddressParts) → AreTold m rows → (rule : AddressParts → Option ℕ) (net : NetAddr) → HoldsAddress m net → (number : ℕ) →
    ((t : AddressParts) → t.net ≡ net → RowIs (HasValue m net) t.parts → AtMost (rule t) number) → Reaches rule rows number (Some net)
at_row m rows are rule net holds number passes =
    let (t, has, is, h) = told_of m rows are net holds in
    let (n, e, le) = passes t is h in
    record { told = t; there = has; is = ap Some (sym is); number = n; broken = e; most = le }

-- ---- metrics

some_metric : (parts : MetricParts) → Decides (list_any (λ (kind : MetricKind). is_conflict (metric_at kind parts)) metric_kinds) ((kind : MetricKind) × Contains metric_kinds kind × (is_conflict (metric_at kind parts) ≡ true))
some_metric parts = Decides-some (λ (kind : MetricKind). is_conflict (metric_at kind parts)) (λ kind. is_conflict (metric_at kind parts) ≡ true) (λ kind. (λ e. e, λ e. e)) metric_kinds

each_metric : (kind : MetricKind) → Contains metric_kinds kind
each_metric Link_in = contains_at metric_kinds 0 Link_in refl
each_metric Link_out = contains_at metric_kinds 1 Link_out refl
each_metric Near_in = contains_at metric_kinds 2 Near_in refl
each_metric Near_out = contains_at metric_kinds 3 Near_out refl

abbrev some_two : RowParts → Bool
some_two r = list_any (λ (kind : MetricKind). is_conflict (metric_at kind r.metrics)) metric_kinds

pub wrong_metric : (m : MessageFields) (net : NetAddr) (r : RowParts) → RowIs (HasValue m net) r → has_wrong_metric r ≡ true → HasWrongMetric m net
wrong_metric m net r h e = elim (or_cases r.metrics.wrong (some_two r) e) [
  | inl w ↦ inl (h.metrics.wrong.0 w)
  | inr some ↦
      let (kind, among, two) = (some_metric r.metrics).0 some in
      let (a, b, x, y, d) = conflict_differ (ShowsMetric m net kind) (metric_at kind r.metrics) (metrics_told m net r.metrics h.metrics kind) two in
      inr (kind, a, b, x, y, d)
]

pub metric_wrong : (m : MessageFields) (net : NetAddr) (r : RowParts) → RowIs (HasValue m net) r → HasWrongMetric m net → has_wrong_metric r ≡ true
metric_wrong m net r h (inl w) = or_left r.metrics.wrong (some_two r) (h.metrics.wrong.1 w)
metric_wrong m net r h (inr (kind, a, b, x, y, d)) =
    or_right r.metrics.wrong (some_two r) ((some_metric r.metrics).1 (kind, each_metric kind, differ_conflict (ShowsMetric m net kind) (metric_at kind r.metrics) a b (metrics_told m net r.metrics h.metrics kind) x y d))

-- metrics are right, so there is one of each kind
pub right_metric : (r : RowParts) → has_wrong_metric r ≡ false → (kind : MetricKind) → is_conflict (metric_at kind r.metrics) ≡ false
right_metric r e kind = grind (arith, common_steps, cases_Bool, or_parts, some_metric, each_metric)

pub wrong_metric_has : (m : MessageFields) (net : NetAddr) → HasWrongMetric m net → HoldsAddress m net
wrong_metric_has m net h2 = grind (arith, common_steps, says_has)
