-- The flags of a LINK_METRIC.
use Rattle.mesh_trace.proofs.Common.{common_steps, ◌≡◌, ℕ, ◌+◌, ◌-◌, ◌<◌, ◌≤◌, inl, inr, ltb, Bool, true, false, List, [], ◌∷◌, length, refl, sym, ap, subst, arith, slice_index_or, ltb-true, ltb-false, has, flag, IsReadOfOther}
use Rattle.mesh_packet.proofs.FlagSums.{tells_128, tells_64, tells_32, tells_16}
use Rattle.mesh_wire.proofs.Statuses.{apart}
use Rattle.mesh_wire.specs.Metrics.{MetricKind, Link_in, Link_out, Near_in, Near_out, flag_of}

-- a number below twice another has that one as its upper bit
bit : (n k : ℕ) → n < k + k → (b : Bool) × (r : ℕ) × (r < k) × (n ≡ flag b k + r)
bit n k lt = at (ltb n k) refl where
  at : (t : Bool) → ltb n k ≡ t → (b : Bool) × (r : ℕ) × (r < k) × (n ≡ flag b k + r)
  at true e = (false, n, ltb-true n k e, omega arith)
  at false e = (true, n - k, omega (arith, lt, ltb-false n k e), omega (arith, ltb-false n k e))

record Bits (n : ℕ) : Type 0 where
  a : Bool
  b : Bool
  c : Bool
  d : Bool
  rest : ℕ
  small : rest < 16
  is : n ≡ flag a 128 + flag b 64 + flag c 32 + flag d 16 + rest

bits : (n : ℕ) → n < 256 → Bits n
bits n lt =
    let (a, x, small_x, is_x) = bit n 128 lt in
    let (b, y, small_y, is_y) = bit x 64 small_x in
    let (c, z, small_z, is_z) = bit y 32 small_y in
    let (d, r, small_r, is_r) = bit z 16 small_z in
    record { a = a; b = b; c = c; d = d; rest = r; small = small_r; is = omega (arith, is_x, is_y, is_z, is_r) }

-- an octet from 16 on has one of the flags
pub some_flag : (n : ℕ) → n < 256 → 16 ≤ n → (metric : MetricKind) × (has n (flag_of metric) ≡ true)
some_flag n lt le = (let h = bits n lt in subst (λ (k : ℕ). (metric : MetricKind) × (has k (flag_of metric) ≡ true)) (sym h.is) (of h.a h.b h.c h.d h.rest h.small (omega (arith, le, h.is)))) where
  of : (a b c d : Bool) (r : ℕ) → r < 16 → 16 ≤ flag a 128 + flag b 64 + flag c 32 + flag d 16 + r → (metric : MetricKind) × (has (flag a 128 + flag b 64 + flag c 32 + flag d 16 + r) (flag_of metric) ≡ true)
  of true b c d r small most = (Link_in, tells_128 true b c d r small)
  of false true c d r small most = (Link_out, tells_64 false true c d r small)
  of false false true d r small most = (Near_in, tells_32 false false true d r small)
  of false false false true r small most = (Near_out, tells_16 false false false true r small)
  of false false false false r small most = absurd (omega (arith, small, most))

-- below 16 there is none
pub no_flag : (n : ℕ) → n < 16 → (metric : MetricKind) → has n (flag_of metric) ≡ false
no_flag n small metric = grind (arith, common_steps, tells_128, tells_64, tells_32, tells_16)

-- so an octet with one is 16 at least
pub flag_most : (n : ℕ) (metric : MetricKind) → has n (flag_of metric) ≡ true → 16 ≤ n
flag_most n metric set = grind (arith, common_steps, no_flag)

-- a list of two by its items
pub two_items : (octets : List ℕ) → length octets ≡ 2 → (low : ℕ) × (octets ≡ slice_index_or octets 0 0 ∷ low ∷ [])
two_items [] e = absurd (omega (arith, e))
two_items (a ∷ []) e = absurd (omega (arith, e))
two_items (a ∷ b ∷ []) e = (b, refl)
two_items (a ∷ b ∷ x ∷ xs) e = absurd (omega (arith, e))

-- a LINK_METRIC is read where its first octet has a flag
pub metric_read : (kind : ℕ) (octets : List ℕ) → kind ≡ 7 → length octets ≡ 2 → slice_index_or octets 0 0 < 256 →
    (16 ≤ slice_index_or octets 0 0 → IsReadOfOther kind octets) × (IsReadOfOther kind octets → 16 ≤ slice_index_or octets 0 0)
metric_read kind octets seven two octet = (
  λ most.
      let (low, is) = two_items octets two in
      let (metric, set) = some_flag (slice_index_or octets 0 0) octet most in
      inr (inr (seven, (metric, (slice_index_or octets 0 0, low, is, set)))),
  λ read. elim read [
    | inl status ↦ absurd ((apart kind status).1 seven)
    | inr (inl h) ↦ absurd (omega (arith, seven, h.0))
    | inr (inr (same, (metric, (high, low, is, set)))) ↦ (let first : slice_index_or octets 0 0 ≡ high = ap (λ (l : List ℕ). slice_index_or l 0 0) is in let most = flag_most high metric set in omega (arith, first, most))
  ],
)
