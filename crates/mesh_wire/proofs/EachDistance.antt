-- A TC that has a validity at each distance keeps its rules at each.
use Rattle.mesh_wire.proofs.Common.{arith, common_steps, ◌≡◌, ℕ, ◌+◌, ◌<◌, ◌%◌, inl, inr, refl, List, [], ◌∷◌, length, Option, Some, None, NetAddr, Metric, Tc, time_at_distance, IsTimeValue, MessageFields, VALIDITY_TIME, NBR_ADDR_TYPE, GATEWAY, LINK_METRIC, values_of, TlvFields, MetricKind, ShowsMetric, HasWrongMetric, after_hops, HasPart, HasValue, HasType, HasOtherLength, HasTwoValues, Keeps, BreaksTc, AddressWidth, NoOriginator, NoSequence, NoValidity, WrongInterval, Content, AddrType, TwoAddrTypes, ShortPrefix, GatewayOctet, TwoGateways, Beside, WrongMetric, distance_of, IntervalIs, WritesTc}
use Rattle.mesh_atoms.specs.declared.tc_rule.TheConstants as rule
use Rattle.mesh_wire.proofs.Further.{odd, above}

interval_on : (m : MessageFields) (limit hops : ℕ) → ((ticks : Option ℕ) → IntervalIs (after_hops m limit hops) (hops + 1) ticks → ⊥) →
    (ticks : Option ℕ) → IntervalIs m (distance_of m.count) ticks → ⊥
interval_on m limit hops none None is = none None is
interval_on m limit hops none (Some t) (value, e, odd, _) = none (Some (time_at_distance (hops + 1) value)) (value, e, odd, refl)

-- what is said of addresses stays

part_back : (m : MessageFields) (limit hops : ℕ) (net : NetAddr) (part : TlvFields) → HasPart (after_hops m limit hops) net part → HasPart m net part
part_back m limit hops net part p = grind (arith, common_steps)

says_back : (m : MessageFields) (limit hops : ℕ) (net : NetAddr) (kind : ℕ) (octets : List ℕ) → HasValue (after_hops m limit hops) net kind octets → HasValue m net kind octets
says_back m limit hops net kind octets (value, p, e) = (value, part_back m limit hops net (record { kind = kind; ext = 0; value = value }) p, e)

has_back : (m : MessageFields) (limit hops : ℕ) (net : NetAddr) (kind : ℕ) → HasType (after_hops m limit hops) net kind → HasType m net kind
has_back m limit hops net kind (octets, says) = (octets, says_back m limit hops net kind octets says)

other_back : (m : MessageFields) (limit hops : ℕ) (net : NetAddr) (kind n : ℕ) → HasOtherLength (after_hops m limit hops) net kind n → HasOtherLength m net kind n
other_back m limit hops net kind n (octets, says, e) = (octets, says_back m limit hops net kind octets says, e)

two_back : (m : MessageFields) (limit hops : ℕ) (net : NetAddr) (kind : ℕ) → HasTwoValues (after_hops m limit hops) net kind → HasTwoValues m net kind
two_back m limit hops net kind (a, b, p, q, e) = (a, b, says_back m limit hops net kind a p, says_back m limit hops net kind b q, e)

shows_back : (m : MessageFields) (limit hops : ℕ) (net : NetAddr) (kind : MetricKind) (metric : Metric) → ShowsMetric (after_hops m limit hops) net kind metric → ShowsMetric m net kind metric
shows_back m limit hops net kind metric (high, low, says, e, f) = (high, low, says_back m limit hops net LINK_METRIC (high ∷ low ∷ []) says, e, f)

wrong_back : (m : MessageFields) (limit hops : ℕ) (net : NetAddr) → HasWrongMetric (after_hops m limit hops) net → HasWrongMetric m net
wrong_back m limit hops net (inl h) = inl (other_back m limit hops net LINK_METRIC 2 h)
wrong_back m limit hops net (inr (kind, a, b, p, q, e)) = inr (kind, a, b, shows_back m limit hops net kind a p, shows_back m limit hops net kind b q, e)

-- where each distance has a validity above 0, a TC keeps its rules at each
pub kept : (m : MessageFields) (limit hops : ℕ) (value : List ℕ) → Keeps (BreaksTc m) → values_of VALIDITY_TIME m ≡ value ∷ [] → length value % 2 ≡ 1 → ((distance : ℕ) → 0 < time_at_distance distance value) → Keeps (BreaksTc (after_hops m limit hops))
kept m limit hops value keeps one odd some number net (AddressWidth e) = keeps rule.ADDRESS_WIDTH None (AddressWidth e)
kept m limit hops value keeps one odd some number net (NoOriginator e) = keeps rule.HEADING None (NoOriginator e)
kept m limit hops value keeps one odd some number net (NoSequence e) = keeps rule.HEADING None (NoSequence e)
kept m limit hops value keeps one odd some number net (NoValidity none) = none (time_at_distance (hops + 1) value) ((value, one, odd, refl), some (hops + 1))
kept m limit hops value keeps one odd some number net (WrongInterval none) = keeps rule.INTERVAL None (WrongInterval (interval_on m limit hops none))
kept m limit hops value keeps one odd some number net (Content none) = keeps rule.CONTENT None (Content none)
kept m limit hops value keeps one odd some number _ (AddrType net (octets, says, e)) = keeps rule.ADDR_TYPE (Some net) (AddrType net (octets, says_back m limit hops net NBR_ADDR_TYPE octets says, e))
kept m limit hops value keeps one odd some number _ (TwoAddrTypes net h) = keeps rule.ADDR_TYPE (Some net) (TwoAddrTypes net (two_back m limit hops net NBR_ADDR_TYPE h))
kept m limit hops value keeps one odd some number _ (ShortPrefix net h l) = keeps rule.ADDR_TYPE (Some net) (ShortPrefix net (has_back m limit hops net NBR_ADDR_TYPE h) l)
kept m limit hops value keeps one odd some number _ (GatewayOctet net (octets, says, e)) = keeps rule.GATEWAY (Some net) (GatewayOctet net (octets, says_back m limit hops net GATEWAY octets says, e))
kept m limit hops value keeps one odd some number _ (TwoGateways net h) = keeps rule.GATEWAY (Some net) (TwoGateways net (two_back m limit hops net GATEWAY h))
kept m limit hops value keeps one odd some number _ (Beside net h g) = keeps rule.GATEWAY (Some net) (Beside net (has_back m limit hops net GATEWAY h) (has_back m limit hops net NBR_ADDR_TYPE g))
kept m limit hops value keeps one odd some number _ (WrongMetric net h) = keeps rule.METRIC (Some net) (WrongMetric net (wrong_back m limit hops net h))

-- a TC that may be sent breaks no rule after any number of hops
pub kept_on : (tc : Tc) (limit : ℕ) (validity bytes : List ℕ) → (w : WritesTc tc limit validity bytes) → IsTimeValue validity → (hops : ℕ) → Keeps (BreaksTc (after_hops w.message limit hops))
kept_on tc limit validity bytes w times hops = kept w.message limit hops validity w.keeps w.validity_is (odd validity times) (λ distance. above distance validity times)
