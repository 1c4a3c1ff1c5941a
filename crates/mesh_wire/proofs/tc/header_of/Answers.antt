use Rattle.mesh_wire.proofs.Common.{◌≡◌, ℕ, subst, Option, Some, Addr4, none_not, MessageFields, fields_of_message, OriginatorIs, BreaksTc, AddressWidth, NoOriginator, NoSequence, NoValidity, WrongInterval, Content, ValidityIs, IntervalIs}
use Rattle.mesh_wire.proofs.InOrder.{NoneBelow, first_at}
use Rattle.mesh_wire.proofs.TcHeading.{first_number, past_width, past_header, past_validity, past_interval, no_originator, an_originator}
use Rattle.mesh_wire.proofs.tc.header_of.Goals as goal

-- a message whose header keeps the rules, by its originator and its sequence number
header : (m : MessageFields) (originator : Addr4) (sequence : ℕ) → m.width ≡ 4 → OriginatorIs m.originator (Some originator) → m.sequence ≡ Some sequence → NoneBelow (BreaksTc m) 34
header m originator sequence w is at = past_header m w (an_originator m.originator originator is) (λ none. none_not none at)

pub returns-then-message-ne4-clause-broken : goal.returns-then-message-ne4-clause-broken
returns-then-message-ne4-clause-broken c = let m = fields_of_message c.args.message.now in first_at (BreaksTc m) 32 (first_number m) (AddressWidth c.if-message-ne4.true)

pub returns-in_default-clause-broken : goal.returns-in_default-clause-broken
returns-in_default-clause-broken c = let m = fields_of_message c.args.message.now in first_at (BreaksTc m) 33 (past_width m c.if-message-ne4.false) (NoOriginator (no_originator m.originator c.in_default.ensures))

pub returns-in_default-sequence-clause-broken : goal.returns-in_default-sequence-clause-broken
returns-in_default-sequence-clause-broken c = let m = fields_of_message c.args.message.now in first_at (BreaksTc m) 33 (past_width m c.if-message-ne4.false) (NoSequence c.in_default-sequence.is)

pub returns-in_default-validity-clause-broken : goal.returns-in_default-validity-clause-broken
returns-in_default-validity-clause-broken c =
    let m = fields_of_message c.args.message.now in
    first_at (BreaksTc m) 34 (header m c.in-Some.originator c.in-Some-sequence.sequence c.if-message-ne4.false c.in-Some.ensures c.in-Some-sequence.is)
    (NoValidity (subst (λ (d : ℕ). (ticks : ℕ) → ValidityIs m d ticks → ⊥) c.distance_of-distance.ensures c.in_default-validity.ensures.none))

pub returns-in_default-interval-clause-broken : goal.returns-in_default-interval-clause-broken
returns-in_default-interval-clause-broken c =
    let m = fields_of_message c.args.message.now in
    let valid = subst (λ (d : ℕ). ValidityIs m d c.in-Some-validity.validity) c.distance_of-distance.ensures c.in-Some-validity.ensures.some in
    first_at (BreaksTc m) 35
    (past_validity m (header m c.in-Some.originator c.in-Some-sequence.sequence c.if-message-ne4.false c.in-Some.ensures c.in-Some-sequence.is) c.in-Some-validity.validity valid)
    (WrongInterval (subst (λ (d : ℕ). (ticks : Option ℕ) → IntervalIs m d ticks → ⊥) c.distance_of-distance.ensures c.in_default-interval.ensures.none))

pub returns-in_default-content_of-clause-broken : goal.returns-in_default-content_of-clause-broken
returns-in_default-content_of-clause-broken c =
    let m = fields_of_message c.args.message.now in
    let valid = subst (λ (d : ℕ). ValidityIs m d c.in-Some-validity.validity) c.distance_of-distance.ensures c.in-Some-validity.ensures.some in
    let spaced = subst (λ (d : ℕ). IntervalIs m d c.in-Some-interval.interval) c.distance_of-distance.ensures c.in-Some-interval.ensures.some in
    let timed = past_validity m (header m c.in-Some.originator c.in-Some-sequence.sequence c.if-message-ne4.false c.in-Some.ensures c.in-Some-sequence.is) c.in-Some-validity.validity valid in
    first_at (BreaksTc m) 36 (past_interval m timed c.in-Some-interval.interval spaced) (Content c.in_default-content_of.ensures.none)

pub returns-clause-header : goal.returns-clause-header
returns-clause-header c = record {
  width = c.if-message-ne4.false;
  originator = c.in-Some.ensures;
  sequence = c.in-Some-sequence.is;
  validity = subst (λ (d : ℕ). ValidityIs (fields_of_message c.args.message.now) d c.in-Some-validity.validity) c.distance_of-distance.ensures c.in-Some-validity.ensures.some;
  interval = subst (λ (d : ℕ). IntervalIs (fields_of_message c.args.message.now) d c.in-Some-interval.interval) c.distance_of-distance.ensures c.in-Some-interval.ensures.some;
  content = c.in-Some-content_of.ensures.some;
}
