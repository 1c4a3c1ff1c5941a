-- The rules on what a HELLO says before its rows, one by one.
use Rattle.mesh_wire.proofs.Common.{common_steps, ◌≡◌, ℕ, arith, ◌≢◌, ◌==◌, Option, cond, NetAddr, MessageFields, HasWilling, IsOther, BreaksHello, ValidityIs, IntervalIs}
use Rattle.mesh_wire.proofs.InOrder.{NoneBelow, one_further}

-- what is wrong where the rule of a number is broken
abbrev Wrong : MessageFields → ℕ → Type 0
Wrong m k =
    cond (k == 20) (m.width ≢ 4)
    (cond (k == 21) (IsOther 1 m.limit)
    (cond (k == 22) (IsOther 0 m.count)
    (cond (k == 23) ((ticks : ℕ) → ValidityIs m 1 ticks → ⊥)
    (cond (k == 24) ((ticks : Option ℕ) → IntervalIs m 1 ticks → ⊥)
    (cond (k == 25) ((octet : ℕ) → HasWilling m octet → ⊥) (Unit {0}))))))

wrong : (m : MessageFields) (k : ℕ) (a : Option NetAddr) → BreaksHello m k a → Wrong m k
wrong m k a h3 = grind (arith, common_steps)

pub first_number : (m : MessageFields) → NoneBelow (BreaksHello m) 20
first_number m k a h3 = grind (arith, common_steps)

module _ (m : MessageFields) where
  pub width_kept : m.width ≡ 4 → (a : Option NetAddr) → BreaksHello m 20 a → ⊥
  width_kept w a h = wrong m 20 a h w

  pub limit_kept : (IsOther 1 m.limit → ⊥) → (a : Option NetAddr) → BreaksHello m 21 a → ⊥
  limit_kept none a h = none (wrong m 21 a h)

  pub count_kept : (IsOther 0 m.count → ⊥) → (a : Option NetAddr) → BreaksHello m 22 a → ⊥
  count_kept none a h = none (wrong m 22 a h)

  pub validity_kept : (ticks : ℕ) → ValidityIs m 1 ticks → (a : Option NetAddr) → BreaksHello m 23 a → ⊥
  validity_kept ticks is a h = wrong m 23 a h ticks is

  pub interval_kept : (ticks : Option ℕ) → IntervalIs m 1 ticks → (a : Option NetAddr) → BreaksHello m 24 a → ⊥
  interval_kept ticks is a h = wrong m 24 a h ticks is

  pub willing_kept : (octet : ℕ) → HasWilling m octet → (a : Option NetAddr) → BreaksHello m 25 a → ⊥
  willing_kept octet is a h = wrong m 25 a h octet is

  -- no rule on the width is broken; none on the header either; none on the times either
  pub past_width : m.width ≡ 4 → NoneBelow (BreaksHello m) 21
  past_width w = one_further (BreaksHello m) 20 (first_number m) (width_kept w)

  pub past_limit : m.width ≡ 4 → (IsOther 1 m.limit → ⊥) → NoneBelow (BreaksHello m) 22
  past_limit w limit = one_further (BreaksHello m) 21 (past_width w) (limit_kept limit)

  pub past_count : m.width ≡ 4 → (IsOther 1 m.limit → ⊥) → (IsOther 0 m.count → ⊥) → NoneBelow (BreaksHello m) 23
  past_count w limit count = one_further (BreaksHello m) 22 (past_limit w limit) (count_kept count)

  pub past_validity : NoneBelow (BreaksHello m) 23 → (ticks : ℕ) → ValidityIs m 1 ticks → NoneBelow (BreaksHello m) 24
  past_validity below ticks is = one_further (BreaksHello m) 23 below (validity_kept ticks is)

  pub past_interval : NoneBelow (BreaksHello m) 24 → (ticks : Option ℕ) → IntervalIs m 1 ticks → NoneBelow (BreaksHello m) 25
  past_interval below ticks is = one_further (BreaksHello m) 24 below (interval_kept ticks is)

  pub past_willing : NoneBelow (BreaksHello m) 25 → (octet : ℕ) → HasWilling m octet → NoneBelow (BreaksHello m) 26
  past_willing below octet is = one_further (BreaksHello m) 25 below (willing_kept octet is)
