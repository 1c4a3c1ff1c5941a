-- The rules on the addresses of a HELLO, by tests of what is kept.
use Rattle.mesh_wire.proofs.Common.{common_steps, ◌≡◌, ℕ, ◌≤◌, inl, inr, refl, ap, arith, Bool, true, false, List, Contains, lit≤, Decides, ◌&&◌, Option, Some, None, nat_lt, slice_get, cases_Bool, ltb-true, lt-ltb, and_parts as both, and_from as and_both, NetAddr, Decides-some, MessageFields, AddressParts, OctetKind, ByKind, Octets, metric_at, statuses, type_of, at, some_status, is_undefined, has_two, has_status, has_wrong_metric, hello_tests, hello_rule, BreaksHello, Undefined, TwoValues, MetricKind, HasValue, is_conflict, is_said}
use Rattle.mesh_wire.specs.HelloRules.{AddressWidth, ShortPrefix, WrongMetric}
use Rattle.mesh_wire.proofs.FirstTest.{AtMost, given, failed, passed, at_most_more}
use Rattle.mesh_wire.proofs.Kept.{AreTold, says_has, no_value, none_read, said_found, type_said, two_found, two_said}
use Rattle.mesh_wire.proofs.Ruled.{Decides as DecidesRule, Reaches}
use Rattle.mesh_wire.proofs.Slots.{OctetsAre}
use Rattle.mesh_wire.proofs.Tests.{at_row, wrong_metric, metric_wrong, right_metric, wrong_metric_has}

-- what is kept of some status passes a test
some_kind : (test : Octets → Bool) (by : ByKind Octets) → Decides (some_status test by) ((kind : OctetKind) × Contains statuses kind × (test (at kind by) ≡ true))
some_kind test by = Decides-some (λ (kind : OctetKind). test (at kind by)) (λ kind. test (at kind by) ≡ true) (λ kind. (λ e. e, λ e. e)) statuses

no_kind : (test : Octets → Bool) (by : ByKind Octets) → some_status test by ≡ false → (kind : OctetKind) → Contains statuses kind → test (at kind by) ≡ false
no_kind test by e kind among = grind (arith, common_steps, cases_Bool, some_kind)

-- ---- a row that breaks no rule

pub record Sound (t : AddressParts) : Type 0 where
  pub defined : (kind : OctetKind) → Contains statuses kind → (at kind t.parts.octets).wrong ≡ false
  pub one : (kind : OctetKind) → Contains statuses kind → is_conflict (at kind t.parts.octets).one ≡ false
  pub metric : (kind : MetricKind) → is_conflict (metric_at kind t.parts.metrics) ≡ false

pub sound_of : (t : AddressParts) → hello_rule t ≡ None → Sound t
sound_of t e =
    let (defined, (one, (short, (metric, none)))) = failed (hello_tests t) e in
    record { defined = no_kind (λ (o : Octets). o.wrong) t.parts.octets defined; one = no_kind (λ (o : Octets). is_conflict o.one) t.parts.octets one; metric = right_metric t.parts metric }

-- ---- the rules

module _ (m : MessageFields) (rows : List AddressParts) (are : AreTold m rows) where
  kept : (t : AddressParts) → Contains rows t → (kind : OctetKind) → OctetsAre kind (HasValue m t.net (type_of kind)) (at kind t.parts.octets)
  kept t has kind = (are.each t has).1.octets kind

  breaks : (t : AddressParts) (n : ℕ) → Contains rows t → hello_rule t ≡ Some n → BreaksHello m n (Some t.net)
  breaks t n has e = given (λ (k : ℕ). BreaksHello m k (Some t.net)) (hello_tests t) n e (
    λ undefined.
        let (kind, among, w) = (some_kind (λ (o : Octets). o.wrong) t.parts.octets).0 undefined in
        let (x, said, none) = (kept t has kind).wrong.0 w in
        Undefined t.net kind among (x, said, no_value kind x none),
    (
      λ two.
          let (kind, among, w) = (some_kind (λ (o : Octets). is_conflict o.one) t.parts.octets).0 two in
          TwoValues t.net kind among (two_said kind (HasValue m t.net (type_of kind)) (at kind t.parts.octets) (kept t has kind) w),
      (
        λ short.
            let p = both (nat_lt t.net.prefix 32) (has_status t.parts.octets) short in
            let (kind, among, w) = (some_kind (λ (o : Octets). is_said o.one) t.parts.octets).0 p.1 in
            ShortPrefix t.net kind among (type_said kind (HasValue m t.net (type_of kind)) (at kind t.parts.octets) (kept t has kind) w) (ltb-true t.net.prefix 32 p.0),
        (λ wrong. WrongMetric t.net (wrong_metric m t.net t.parts (are.each t has).1 wrong), tt),
      ),
    ),
  )

  test : (t : AddressParts) (place : ℕ) (b : Bool) (n : ℕ) → slice_get (hello_tests t) place ≡ Some (b, n) → b ≡ true → AtMost (hello_rule t) n
  test t place b n = passed 26 (hello_tests t) (lit≤ tt, (lit≤ tt, (lit≤ tt, (lit≤ tt, tt)))) place b n

  undefined : (t : AddressParts) (kind : OctetKind) → Contains statuses kind → (at kind t.parts.octets).wrong ≡ true → AtMost (hello_rule t) 26
  undefined t kind among w = test t 0 (is_undefined t.parts.octets) 26 refl ((some_kind (λ (o : Octets). o.wrong) t.parts.octets).1 (kind, among, w))

  reaches : (k : ℕ) (a : Option NetAddr) → BreaksHello m k a → 26 ≤ k → Reaches hello_rule rows k a
  reaches k a (Undefined net kind among (x, said, bad)) e = at_row m rows are hello_rule net (says_has m net (type_of kind) x said) 26 (λ t is h. undefined t kind among ((h.octets kind).wrong.1 (x, said, none_read kind x bad)))
  reaches k a (TwoValues net kind among (x, y, said_x, said_y, d)) e = at_row m rows are hello_rule net (says_has m net (type_of kind) x said_x) 27 (λ t is h.
      elim (two_found kind (HasValue m net (type_of kind)) (at kind t.parts.octets) (h.octets kind) x y said_x said_y d) [
        | inl w ↦ at_most_more (hello_rule t) 26 27 (lit≤ tt) (undefined t kind among w)
        | inr two ↦ test t 1 (has_two t.parts.octets) 27 refl ((some_kind (λ (o : Octets). is_conflict o.one) t.parts.octets).1 (kind, among, two))
      ])
  reaches k a (ShortPrefix net kind among (x, said) low) e = at_row m rows are hello_rule net (says_has m net (type_of kind) x said) 28 (λ t is h.
      let same : t.net.prefix ≡ net.prefix = ap (λ (n : NetAddr). n.prefix) is in
      elim (said_found kind (HasValue m net (type_of kind)) (at kind t.parts.octets) (h.octets kind) x said) [
        | inl w ↦ at_most_more (hello_rule t) 26 28 (lit≤ tt) (undefined t kind among w)
        | inr some ↦ test t 2 (nat_lt t.net.prefix 32 && has_status t.parts.octets) 28 refl
            (and_both (nat_lt t.net.prefix 32) (has_status t.parts.octets) (lt-ltb t.net.prefix 32 (omega (arith, same, low))) ((some_kind (λ (o : Octets). is_said o.one) t.parts.octets).1 (kind, among, some)))
      ])
  reaches k a (WrongMetric net wrong) e = at_row m rows are hello_rule net (wrong_metric_has m net wrong) 29 (λ t is h. test t 3 (has_wrong_metric t.parts) 29 refl (metric_wrong m net t.parts h wrong))
  reaches k a (AddressWidth h) e = absurd (omega (arith, e))
  reaches k a other e = absurd (omega (arith, e))

  pub hello_decides : DecidesRule (BreaksHello m) hello_rule rows 26
  hello_decides = record { breaks = breaks; reaches = reaches }
