-- The rules on the addresses of a TC, by tests of what is kept.
use Rattle.mesh_wire.proofs.Common.{common_steps, ◌≡◌, ℕ, ◌≤◌, inl, inr, refl, ap, arith, Bool, true, List, Contains, lit≤, ◌||◌, ◌&&◌, Option, Some, None, nat_lt, slice_get, ltb-true, lt-ltb, and_parts as both, or_parts, or_cases, or_left, or_right, and_from as and_both, NetAddr, MessageFields, AddressParts, Octets, RowParts, has_wrong_type, has_wrong_gateway, has_wrong_metric, tc_tests, tc_rule, NBR_ADDR_TYPE, GATEWAY, HasValue, BreaksTc, AddressWidth, AddrType, TwoAddrTypes, ShortPrefix, GatewayOctet, TwoGateways, Beside, WrongMetric, is_conflict, is_said}
use Rattle.mesh_wire.specs.declared.octets.OctetKind.TheVariants as kinds
use Rattle.mesh_wire.proofs.FirstTest.{AtMost, given, passed, at_most_more}
use Rattle.mesh_wire.proofs.Kept.{AreTold, says_has, no_value, none_read, said_found, type_said, two_found, two_said}
use Rattle.mesh_wire.proofs.Ruled.{Decides, Reaches}
use Rattle.mesh_wire.proofs.Slots.{RowIs}
use Rattle.mesh_wire.proofs.TcRows.{IsSound}
use Rattle.mesh_wire.proofs.Tests.{at_row, wrong_metric, metric_wrong, right_metric, wrong_metric_has}

-- ---- what a row has that breaks a rule

module _ (m : MessageFields) (net : NetAddr) (r : RowParts) (h : RowIs (HasValue m net) r) where
  abbrev type : Octets
  type = r.octets.addr_type

  abbrev distance : Octets
  distance = r.octets.gateway

  abbrev typed : List ℕ → Type 0
  typed = HasValue m net NBR_ADDR_TYPE

  abbrev distant : List ℕ → Type 0
  distant = HasValue m net GATEWAY

  type_broken : has_wrong_type net.prefix r ≡ true → BreaksTc m 37 (Some net)
  type_broken e = elim (or_cases type.wrong (is_conflict type.one || (nat_lt net.prefix 32 && is_said type.one)) e) [
    | inl w ↦ let (x, said, none) = (h.octets kinds.AddrType).wrong.0 w in AddrType net (x, said, no_value kinds.AddrType x none)
    | inr rest ↦ elim (or_cases (is_conflict type.one) (nat_lt net.prefix 32 && is_said type.one) rest) [
      | inl two ↦ TwoAddrTypes net (two_said kinds.AddrType typed type (h.octets kinds.AddrType) two)
      | inr short ↦
          let p = both (nat_lt net.prefix 32) (is_said type.one) short in
          ShortPrefix net (type_said kinds.AddrType typed type (h.octets kinds.AddrType) p.1) (ltb-true net.prefix 32 p.0)
    ]
  ]

  gateway_broken : has_wrong_gateway r ≡ true → BreaksTc m 38 (Some net)
  gateway_broken e = elim (or_cases distance.wrong (is_conflict distance.one || (is_said distance.one && is_said type.one)) e) [
    | inl w ↦ let (x, said, none) = (h.octets kinds.Gateway).wrong.0 w in GatewayOctet net (x, said, no_value kinds.Gateway x none)
    | inr rest ↦ elim (or_cases (is_conflict distance.one) (is_said distance.one && is_said type.one) rest) [
      | inl two ↦ TwoGateways net (two_said kinds.Gateway distant distance (h.octets kinds.Gateway) two)
      | inr beside ↦
          let p = both (is_said distance.one) (is_said type.one) beside in
          Beside net (type_said kinds.Gateway distant distance (h.octets kinds.Gateway) p.0) (type_said kinds.AddrType typed type (h.octets kinds.AddrType) p.1)
    ]
  ]

pub sound_of : (t : AddressParts) → tc_rule t ≡ None → IsSound t
sound_of t e = grind (arith, common_steps, or_parts, right_metric)

-- ---- the rules

module _ (m : MessageFields) (rows : List AddressParts) (are : AreTold m rows) where
  breaks : (t : AddressParts) (n : ℕ) → Contains rows t → tc_rule t ≡ Some n → BreaksTc m n (Some t.net)
  breaks t n has e =
      let h = (are.each t has).1 in
      given (λ (k : ℕ). BreaksTc m k (Some t.net)) (tc_tests t) n e
      (type_broken m t.net t.parts h, (gateway_broken m t.net t.parts h, (λ w. WrongMetric t.net (wrong_metric m t.net t.parts h w), tt)))

  test : (t : AddressParts) (place : ℕ) (b : Bool) (n : ℕ) → slice_get (tc_tests t) place ≡ Some (b, n) → b ≡ true → AtMost (tc_rule t) n
  test t place b n = passed 37 (tc_tests t) (lit≤ tt, (lit≤ tt, (lit≤ tt, tt))) place b n

  wrong_type : (t : AddressParts) → has_wrong_type t.net.prefix t.parts ≡ true → AtMost (tc_rule t) 37
  wrong_type t e = test t 0 (has_wrong_type t.net.prefix t.parts) 37 refl e

  wrong_gateway : (t : AddressParts) → has_wrong_gateway t.parts ≡ true → AtMost (tc_rule t) 38
  wrong_gateway t e = test t 1 (has_wrong_gateway t.parts) 38 refl e

  -- of a value that is said
  of_said : (net : NetAddr) (type : ℕ) (x : List ℕ) → HasValue m net type x → (number : ℕ) → ((t : AddressParts) → t.net ≡ net → RowIs (HasValue m net) t.parts → AtMost (tc_rule t) number) → Reaches tc_rule rows number (Some net)
  of_said net type x said = at_row m rows are tc_rule net (says_has m net type x said)

  reaches : (k : ℕ) (a : Option NetAddr) → BreaksTc m k a → 37 ≤ k → Reaches tc_rule rows k a
  reaches k a (AddrType net (x, said, bad)) e = of_said net NBR_ADDR_TYPE x said 37 (λ t is h.
      wrong_type t (or_left _ _ ((h.octets kinds.AddrType).wrong.1 (x, said, none_read kinds.AddrType x bad))))
  reaches k a (TwoAddrTypes net (x, y, said, said_y, d)) e = of_said net NBR_ADDR_TYPE x said 37 (λ t is h.
      wrong_type t (elim (two_found kinds.AddrType (HasValue m net NBR_ADDR_TYPE) t.parts.octets.addr_type (h.octets kinds.AddrType) x y said said_y d) [
        | inl w ↦ or_left _ _ w
        | inr two ↦ or_right _ _ (or_left _ _ two)
      ]))
  reaches k a (ShortPrefix net (x, said) lt) e = of_said net NBR_ADDR_TYPE x said 37 (λ t is h.
      wrong_type t (elim (said_found kinds.AddrType (HasValue m net NBR_ADDR_TYPE) t.parts.octets.addr_type (h.octets kinds.AddrType) x said) [
        | inl w ↦ or_left _ _ w
        | inr some ↦ let same : t.net.prefix ≡ net.prefix = ap (λ (n : NetAddr). n.prefix) is in or_right _ _ (or_right _ _ (and_both _ _ (lt-ltb t.net.prefix 32 (omega (arith, same, lt))) some))
      ]))
  reaches k a (GatewayOctet net (x, said, other)) e = of_said net GATEWAY x said 38 (λ t is h.
      wrong_gateway t (or_left _ _ ((h.octets kinds.Gateway).wrong.1 (x, said, none_read kinds.Gateway x other))))
  reaches k a (TwoGateways net (x, y, said, said_y, d)) e = of_said net GATEWAY x said 38 (λ t is h.
      wrong_gateway t (elim (two_found kinds.Gateway (HasValue m net GATEWAY) t.parts.octets.gateway (h.octets kinds.Gateway) x y said said_y d) [
        | inl w ↦ or_left _ _ w
        | inr two ↦ or_right _ _ (or_left _ _ two)
      ]))
  reaches k a (Beside net (x, said) (y, there)) e = of_said net GATEWAY x said 38 (λ t is h.
      elim (said_found kinds.AddrType (HasValue m net NBR_ADDR_TYPE) t.parts.octets.addr_type (h.octets kinds.AddrType) y there) [
        | inl w ↦ at_most_more (tc_rule t) 37 38 (lit≤ tt) (wrong_type t (or_left _ _ w))
        | inr typed ↦ wrong_gateway t (elim (said_found kinds.Gateway (HasValue m net GATEWAY) t.parts.octets.gateway (h.octets kinds.Gateway) x said) [
          | inl w ↦ or_left _ _ w
          | inr some ↦ or_right _ _ (or_right _ _ (and_both _ _ some typed))
        ])
      ])
  reaches k a (WrongMetric net wrong) e = at_row m rows are tc_rule net (wrong_metric_has m net wrong) 39 (λ t is h. test t 2 (has_wrong_metric t.parts) 39 refl (metric_wrong m net t.parts h wrong))
  reaches k a (AddressWidth h) e = absurd (omega (arith, e))
  reaches k a other e = absurd (omega (arith, e))

  pub tc_decides : Decides (BreaksTc m) tc_rule rows 37
  tc_decides = record { breaks = breaks; reaches = reaches }
