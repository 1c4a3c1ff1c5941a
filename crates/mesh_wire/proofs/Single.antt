-- What a message that keeps its rules says is said once.
use Rattle.mesh_wire.proofs.Common.{common_steps, ◌≡◌, ℕ, inl, inr, List, [], ◌∷◌, refl, ap, subst, arith, Contains, Option, Some, None, option_map, cases_eq, Addr4, NetAddr, Metric, IsBefore, IsAtMost, OriginatorIs, RawAddr, MessageFields, MetricKind, MetricIs, HasTwoMetrics, OctetIs, HasTwoValues, AreRows, FirstBroken, IsLow, HasTime, IntervalIs, same_net, same_addr, same_metric}
use Rattle.mesh_wire.proofs.Ascending.{same_ascending}

pub one_time : (message : MessageFields) (kind distance a b : ℕ) → HasTime message kind distance a → HasTime message kind distance b → a ≡ b
one_time message kind distance a b h5 h6 = grind (arith, common_steps)

pub one_interval : (message : MessageFields) (distance : ℕ) (a b : Option ℕ) → IntervalIs message distance a → IntervalIs message distance b → a ≡ b
one_interval message distance a b h k = grind (arith, common_steps, one_time)

pub one_originator : (address : Option RawAddr) (a b : Option Addr4) → OriginatorIs address a → OriginatorIs address b → a ≡ b
one_originator address a b h k = grind (arith, common_steps, same_addr)

pub one_octet : (message : MessageFields) (net : NetAddr) (kind : ℕ) (a b : Option ℕ) → (HasTwoValues message net kind → ⊥) → OctetIs message net kind a → OctetIs message net kind b → a ≡ b
one_octet message net kind None None not_two h k = refl
one_octet message net kind None (Some b) not_two h k = absurd (h (b ∷ []) k)
one_octet message net kind (Some a) None not_two h k = absurd (k (a ∷ []) h)
one_octet message net kind (Some a) (Some b) not_two h k = elim (cases_eq a b) [
  | inl e ↦ ap Some e
  | inr other ↦ absurd (not_two (a ∷ [], b ∷ [], h, k, λ e. other cc))
]

pub one_metric : (message : MessageFields) (net : NetAddr) (kind : MetricKind) (a b : Option Metric) → (HasTwoMetrics message net → ⊥) → MetricIs message net kind a → MetricIs message net kind b → a ≡ b
one_metric message net kind None None not_two h k = refl
one_metric message net kind None (Some b) not_two h k = absurd (h b k)
one_metric message net kind (Some a) None not_two h k = absurd (k a h)
one_metric message net kind (Some a) (Some b) not_two h k = elim (cases_eq a.code b.code) [
  | inl e ↦ ap Some (same_metric a b e)
  | inr other ↦ absurd (not_two (kind, a, b, h, k, λ e. other (ap (λ (m : Metric). m.code) e)))
]

-- an enumeration is told by its values
pub told_by : {X : Type 0} (f : X → ℕ) (g : ℕ → X) → ((x : X) → g (f x) ≡ x) → (a b : Option X) → option_map f a ≡ option_map f b → a ≡ b
told_by f g back a b e = grind (arith, common_steps)

pub one_way : (a b : NetAddr) → IsBefore a b → IsBefore b a → ⊥
one_way a b h2 h3 = grind (arith, common_steps)

-- rows are told by the message, where each row is told by its address
pub one_rows : {Row : Type 0} (message : MessageFields) (addr_of : Row → NetAddr) (IsRow : Row → Type 0) → ((r s : Row) → addr_of r ≡ addr_of s → IsRow r → IsRow s → r ≡ s) →
    (xs ys : List Row) → AreRows message addr_of IsRow xs → AreRows message addr_of IsRow ys → xs ≡ ys
one_rows {Row} message addr_of IsRow told xs ys a b =
    let across : (us vs : List Row) → AreRows message addr_of IsRow us → AreRows message addr_of IsRow vs → (z : Row) → Contains us z → Contains vs z =
    λ us vs c d z has.
    let of_z = c.each z has in
    let there = d.all (addr_of z) of_z.0 in
    let same : there.0 ≡ z = told there.0 z there.2 (d.each there.0 there.1).1 of_z.1 in
    subst (Contains vs) same there.1 in
    same_ascending (λ r s. IsBefore (addr_of r) (addr_of s)) (λ r s. one_way (addr_of r) (addr_of s)) xs ys a.ascending b.ascending (across xs ys a b) (across ys xs b a)

at_most_both : (a b : NetAddr) → IsAtMost a b → IsAtMost b a → (a.addr.0 ≡ b.addr.0) × (a.prefix ≡ b.prefix)
at_most_both a b h2 h3 = grind (arith, common_steps)

low_both : (a b : Option NetAddr) → IsLow a b → IsLow b a → a ≡ b
low_both None None h k = refl
low_both None (Some b) h k = absurd k
low_both (Some a) None h k = absurd h
low_both (Some a) (Some b) h k = (let e = at_most_both a b h k in ap Some (same_net a b (same_addr a.addr b.addr e.0) e.1))

-- one rule is the first that is broken, at one address
pub one_broken : (Breaks : ℕ → Option NetAddr → Type 0) (n m : ℕ) (a b : Option NetAddr) → FirstBroken Breaks n a → FirstBroken Breaks m b → (n ≡ m) × (a ≡ b)
one_broken Breaks n m a b h k = grind (arith, common_steps, low_both)
