use Rattle.mesh_wire.proofs.Common.{iff_false, fields_of_message, IsOther, BreaksHello, HopLimit, HopCount, WrongWilling}
use Rattle.mesh_wire.specs.HelloRules.{AddressWidth, NoValidity, WrongInterval}
use Rattle.mesh_wire.proofs.HelloHeading.{first_number, past_width, past_limit, past_count, past_validity, past_interval}
use Rattle.mesh_wire.proofs.InOrder.{first_at}
use Rattle.mesh_wire.proofs.hello.header_of.Goals as goal

pub returns-then-message-ne4-clause-broken : goal.returns-then-message-ne4-clause-broken
returns-then-message-ne4-clause-broken c = let m = fields_of_message c.args.message.now in first_at (BreaksHello m) 20 (first_number m) (AddressWidth c.if-message-ne4.true)

pub returns-then-is_other-clause-broken : goal.returns-then-is_other-clause-broken
returns-then-is_other-clause-broken c =
    let m = fields_of_message c.args.message.now in
    let (limit, is, other) = c.is_other.ensures.0 c.if-is_other.true in
    first_at (BreaksHello m) 21 (past_width m c.if-message-ne4.false) (HopLimit limit is other)

pub returns-then-is_other-2-clause-broken : goal.returns-then-is_other-2-clause-broken
returns-then-is_other-2-clause-broken c =
    let m = fields_of_message c.args.message.now in
    let limit = iff_false {b = c.is_other.result} {P = IsOther 1 m.limit} c.is_other.ensures c.if-is_other.false in
    let (count, is, other) = c.is_other-2.ensures.0 c.if-is_other-2.true in
    first_at (BreaksHello m) 22 (past_limit m c.if-message-ne4.false limit) (HopCount count is other)

pub returns-in_default-clause-broken : goal.returns-in_default-clause-broken
returns-in_default-clause-broken c =
    let m = fields_of_message c.args.message.now in
    let limit = iff_false {b = c.is_other.result} {P = IsOther 1 m.limit} c.is_other.ensures c.if-is_other.false in
    let count = iff_false {b = c.is_other-2.result} {P = IsOther 0 m.count} c.is_other-2.ensures c.if-is_other-2.false in
    first_at (BreaksHello m) 23 (past_count m c.if-message-ne4.false limit count) (NoValidity c.in_default.ensures.none)

pub returns-in_default-interval-clause-broken : goal.returns-in_default-interval-clause-broken
returns-in_default-interval-clause-broken c =
    let m = fields_of_message c.args.message.now in
    let limit = iff_false {b = c.is_other.result} {P = IsOther 1 m.limit} c.is_other.ensures c.if-is_other.false in
    let count = iff_false {b = c.is_other-2.result} {P = IsOther 0 m.count} c.is_other-2.ensures c.if-is_other-2.false in
    let timed = past_validity m (past_count m c.if-message-ne4.false limit count) c.in-Some.validity c.in-Some.ensures.some in
    first_at (BreaksHello m) 24 timed (WrongInterval c.in_default-interval.ensures.none)

pub returns-in_default-willing-clause-broken : goal.returns-in_default-willing-clause-broken
returns-in_default-willing-clause-broken c =
    let m = fields_of_message c.args.message.now in
    let limit = iff_false {b = c.is_other.result} {P = IsOther 1 m.limit} c.is_other.ensures c.if-is_other.false in
    let count = iff_false {b = c.is_other-2.result} {P = IsOther 0 m.count} c.is_other-2.ensures c.if-is_other-2.false in
    let timed = past_validity m (past_count m c.if-message-ne4.false limit count) c.in-Some.validity c.in-Some.ensures.some in
    first_at (BreaksHello m) 25 (past_interval m timed c.in-Some-interval.interval c.in-Some-interval.ensures.some) (WrongWilling c.in_default-willing.ensures.none)
