-- The rules on what a TC says before its rows, one by one.
use Rattle.mesh_wire.proofs.Common.{common_steps, ◌≡◌, ℕ, ◌+◌, ◌*◌, ◌⊎◌, inl, inr, refl, sym, ◌∙◌, subst, arith, Bool, List, [], ◌∷◌, length, map, slice_index, ◌≢◌, Option, Some, None, ◌==◌, cond, option_copied, Addr4, NetAddr, short_in, RawAddr, TlvFields, fields, MessageFields, OriginatorIs, octets_of, ContentIs, contents_in, BreaksTc, distance_of, ValidityIs, IntervalIs}
use Rattle.mesh_tlv.specs.declared.tlv.Tlv.{Tlv}
use Rattle.mesh_wire.proofs.InOrder.{NoneBelow, one_further}

-- what is wrong where the rule of a number is broken
abbrev Wrong : MessageFields → ℕ → Type 0
Wrong m k =
    cond (k == 32) (m.width ≢ 4)
    (cond (k == 33) ((m.originator ≡ None) ⊎ (m.sequence ≡ None))
    (cond (k == 34) ((ticks : ℕ) → ValidityIs m (distance_of m.count) ticks → ⊥)
    (cond (k == 35) ((ticks : Option ℕ) → IntervalIs m (distance_of m.count) ticks → ⊥)
    (cond (k == 36) ((ansn : ℕ) (complete : Bool) → ContentIs m ansn complete → ⊥) (Unit {0})))))

wrong : (m : MessageFields) (k : ℕ) (a : Option NetAddr) → BreaksTc m k a → Wrong m k
wrong m k a h3 = grind (arith, common_steps)

pub first_number : (m : MessageFields) → NoneBelow (BreaksTc m) 32
first_number m k a h3 = grind (arith, common_steps)

module _ (m : MessageFields) where
  pub width_kept : m.width ≡ 4 → (a : Option NetAddr) → BreaksTc m 32 a → ⊥
  width_kept w a h = wrong m 32 a h w

  pub header_kept : (m.originator ≡ None → ⊥) → (m.sequence ≡ None → ⊥) → (a : Option NetAddr) → BreaksTc m 33 a → ⊥
  header_kept originator sequence a h = elim (wrong m 33 a h) [ inl none ↦ originator none | inr none ↦ sequence none ]

  pub validity_kept : (ticks : ℕ) → ValidityIs m (distance_of m.count) ticks → (a : Option NetAddr) → BreaksTc m 34 a → ⊥
  validity_kept ticks is a h = wrong m 34 a h ticks is

  pub interval_kept : (ticks : Option ℕ) → IntervalIs m (distance_of m.count) ticks → (a : Option NetAddr) → BreaksTc m 35 a → ⊥
  interval_kept ticks is a h = wrong m 35 a h ticks is

  pub content_kept : (ansn : ℕ) (complete : Bool) → ContentIs m ansn complete → (a : Option NetAddr) → BreaksTc m 36 a → ⊥
  content_kept ansn complete is a h = wrong m 36 a h ansn complete is

  pub past_width : m.width ≡ 4 → NoneBelow (BreaksTc m) 33
  past_width w = one_further (BreaksTc m) 32 (first_number m) (width_kept w)

  pub past_header : m.width ≡ 4 → (m.originator ≡ None → ⊥) → (m.sequence ≡ None → ⊥) → NoneBelow (BreaksTc m) 34
  past_header w originator sequence = one_further (BreaksTc m) 33 (past_width w) (header_kept originator sequence)

  pub past_validity : NoneBelow (BreaksTc m) 34 → (ticks : ℕ) → ValidityIs m (distance_of m.count) ticks → NoneBelow (BreaksTc m) 35
  past_validity below ticks is = one_further (BreaksTc m) 34 below (validity_kept ticks is)

  pub past_interval : NoneBelow (BreaksTc m) 35 → (ticks : Option ℕ) → IntervalIs m (distance_of m.count) ticks → NoneBelow (BreaksTc m) 36
  past_interval below ticks is = one_further (BreaksTc m) 35 below (interval_kept ticks is)

  pub past_content : NoneBelow (BreaksTc m) 36 → (ansn : ℕ) (complete : Bool) → ContentIs m ansn complete → NoneBelow (BreaksTc m) 37
  past_content below ansn complete is = one_further (BreaksTc m) 36 below (content_kept ansn complete is)

pub no_originator : (o : Option RawAddr) → OriginatorIs o None → o ≡ None
no_originator o h = grind (arith, common_steps)

pub an_originator : (o : Option RawAddr) (a : Addr4) → OriginatorIs o (Some a) → o ≡ None → ⊥
an_originator o a h e = grind (arith, common_steps)

-- ---- the content

two_octets : (x : List ℕ) → length x ≡ 2 → x ≡ slice_index x 0 ∷ slice_index x 1 ∷ []
two_octets x two = grind (arith, common_steps)

pub content_made : (tlvs slice : List Tlv) (tlv : Tlv) (octets : List ℕ) (number : ℕ) → slice ≡ tlvs → contents_in (map fields slice) ≡ fields tlv ∷ [] → octets ≡ octets_of (option_copied tlv.value) →
    length octets ≡ 2 → number ≡ short_in octets →
    (p : TlvFields) × (h : ℕ) × (l : ℕ) × (contents_in (map fields tlvs) ≡ p ∷ []) × (octets_of p.value ≡ h ∷ l ∷ []) × (number ≡ 256 * h + l) × ((tlv.ext == 0) ≡ (p.ext == 0))
content_made tlvs slice tlv octets number same one is two short = (
  fields tlv,
  slice_index octets 0,
  slice_index octets 1,
  subst (λ (ts : List Tlv). contents_in (map fields ts) ≡ fields tlv ∷ []) same one,
  sym is ∙ two_octets octets two,
  short,
  refl,
)
