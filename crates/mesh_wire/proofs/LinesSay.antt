-- What a message says of an address, by the fields of its line.
use Rattle.mesh_wire.proofs.Common.{common_steps, ◌≡◌, ℕ, ◌+◌, ◌/◌, ◌%◌, ◌<◌, ◌⊎◌, inl, inr, List, [], ◌∷◌, refl, sym, ap, subst, ◌∙◌, arith, ◌↔◌, ◌==◌, Contains, Option, Some, None, Bool, true, false, IsTrue, if◌then◌else◌, option_map, eq-eqb, eqb-true, Metric, has, same_metric, MessageFields, AddressTlvKind, Octet, LinkIn, LinkOut, NearIn, NearOut, AddressRecord, OctetKind, LINK_METRIC, kind_of, narrow, flagged, value_of, MetricKind, Link_in, Link_out, Near_in, Near_out, flag_of, metric_in, metric_of, ShowsMetric, MetricIs, type_of, at, flags_number, HasValue, OctetIs, SaysFlag, AreBlocks, none_not}
use Rattle.mesh_packet.proofs.FlagSums.{tells_128, tells_64, tells_32, tells_16}
use Rattle.mesh_wire.proofs.Laid.{said, says}
use Rattle.mesh_wire.proofs.OctetKinds.{same_type, not_metric}

-- ---- the one column of a type whose values are octets

only : (k : OctetKind) (c : AddressTlvKind) → type_of k ≡ kind_of c → c ≡ Octet k
only k c e = grind (arith, common_steps, same_type, not_metric)

-- the value of an octet
pub octet_value : (o : Option ℕ) → option_map (λ (p : ℕ × ℕ). p.0 ∷ []) (narrow o) ≡ option_map (λ (n : ℕ). n ∷ []) o
octet_value o = grind (arith, common_steps)

-- ---- metrics

abbrev pub column_of : MetricKind → AddressTlvKind
column_of Link_in = LinkIn
column_of Link_out = LinkOut
column_of Near_in = NearIn
column_of Near_out = NearOut

pub column_kind : (k : MetricKind) → kind_of (column_of k) ≡ LINK_METRIC
column_kind k = grind (arith, common_steps)

-- a column of that type is one of a kind of metric
pub metric_column : (c : AddressTlvKind) → LINK_METRIC ≡ kind_of c → (k : MetricKind) × (c ≡ column_of k)
metric_column (Octet kind) e = absurd (not_metric kind (sym e))
metric_column LinkIn e = (Link_in, refl)
metric_column LinkOut e = (Link_out, refl)
metric_column NearIn e = (Near_in, refl)
metric_column NearOut e = (Near_out, refl)

-- the octets of a metric
abbrev pub metric_octets : MetricKind → Metric → List ℕ
metric_octets k m = (flag_of k + m.code / 256) ∷ (m.code % 256 ∷ [])

flagged_value : (k : MetricKind) (o : Option Metric) → option_map (λ (p : ℕ × ℕ). p.0 ∷ (p.1 ∷ [])) (flagged (flag_of k) o) ≡ option_map (metric_octets k) o
flagged_value k o = grind (arith, common_steps)

pub metric_value : (k : MetricKind) (l : AddressRecord) → value_of (column_of k) l ≡ option_map (metric_octets k) (metric_of k l.metrics)
metric_value k l = grind (arith, common_steps, flagged_value)

flags_told : (k j : MetricKind) (n : ℕ) → n < 16 → has (flag_of k + n) (flag_of j) ≡ (flag_of k == flag_of j)
flags_told Link_in Link_in n lt = tells_128 true false false false n lt
flags_told Link_in Link_out n lt = tells_64 true false false false n lt
flags_told Link_in Near_in n lt = tells_32 true false false false n lt
flags_told Link_in Near_out n lt = tells_16 true false false false n lt
flags_told Link_out Link_in n lt = tells_128 false true false false n lt
flags_told Link_out Link_out n lt = tells_64 false true false false n lt
flags_told Link_out Near_in n lt = tells_32 false true false false n lt
flags_told Link_out Near_out n lt = tells_16 false true false false n lt
flags_told Near_in Link_in n lt = tells_128 false false true false n lt
flags_told Near_in Link_out n lt = tells_64 false false true false n lt
flags_told Near_in Near_in n lt = tells_32 false false true false n lt
flags_told Near_in Near_out n lt = tells_16 false false true false n lt
flags_told Near_out Link_in n lt = tells_128 false false false true n lt
flags_told Near_out Link_out n lt = tells_64 false false false true n lt
flags_told Near_out Near_in n lt = tells_32 false false false true n lt
flags_told Near_out Near_out n lt = tells_16 false false false true n lt

of_flag : ℕ → MetricKind
of_flag n = if n == 128 then Link_in else if n == 64 then Link_out else if n == 32 then Near_in else Near_out

flag_back : (k : MetricKind) → of_flag (flag_of k) ≡ k
unfolding of_flag
flag_back k = grind (arith, common_steps)

same_kind : (k j : MetricKind) → (flag_of k == flag_of j) ≡ true → k ≡ j
same_kind k j e = sym (flag_back k) ∙ ap of_flag (eqb-true (flag_of k) (flag_of j) e) ∙ flag_back j

-- the first octet has the flag of the kind, and no other
metric_flag : (k j : MetricKind) (m : Metric) → has (flag_of k + m.code / 256) (flag_of j) ≡ (flag_of k == flag_of j)
metric_flag k j m = let less = m.in_range in flags_told k j (m.code / 256) (omega arith)

pub has_flag : (k : MetricKind) (m : Metric) → has (flag_of k + m.code / 256) (flag_of k) ≡ true
has_flag k m = metric_flag k k m ∙ eq-eqb (flag_of k) (flag_of k) refl

metric_again : (k : MetricKind) (m : Metric) → m ≡ metric_in (flag_of k + m.code / 256) (m.code % 256)
metric_again k m = grind (arith, common_steps, same_metric)

same_two : (a b x y : ℕ) → Some (a ∷ (b ∷ [])) ≡ Some (x ∷ (y ∷ [])) → (a ≡ x) × (b ≡ y)
same_two a b x y e = (cc, cc)

same_one : (a b : ℕ) → Some (a ∷ []) ≡ Some (b ∷ []) → a ≡ b
same_one a b e = cc

-- ---- what is said of the address of a line

module _ (m : MessageFields) (lines : List AddressRecord) (are : AreBlocks lines m.blocks) (unique : (a b : AddressRecord) → Contains lines a → Contains lines b → a.net ≡ b.net → a ≡ b) (line : AddressRecord) (among : Contains lines line) where
  pub line_says : (kind : ℕ) (octets : List ℕ) → HasValue m line.net kind octets → (c : AddressTlvKind) × (kind ≡ kind_of c) × (value_of c line ≡ Some octets)
  line_says kind octets (value, part, is) =
      let (other, c, there, of, k, ext, v) = said m lines are line.net (record { kind = kind; ext = 0; value = value }) part in
      let same : other ≡ line = unique other line there among of in
      (c, k, ap (value_of c) (sym same) ∙ v ∙ ap Some (sym is))

  -- of a type whose values are octets
  pub says_only : (k : OctetKind) (octets : List ℕ) → HasValue m line.net (type_of k) octets → option_map (λ (n : ℕ). n ∷ []) (at k line.octets) ≡ Some octets
  says_only k octets s =
      let (c, e, v) = line_says (type_of k) octets s in
      sym (octet_value (at k line.octets)) ∙ subst (λ (x : AddressTlvKind). value_of x line ≡ Some octets) (only k c e) v

  octet_from : (k : OctetKind) (o : Option ℕ) → at k line.octets ≡ o → OctetIs m line.net (type_of k) o
  octet_from k None e = λ octets s. none_not {o = option_map (λ (n : ℕ). n ∷ []) (at k line.octets)} (ap (option_map (λ (n : ℕ). n ∷ [])) e) (says_only k octets s)
  octet_from k (Some n) e = says m lines are line (Octet k) (n ∷ []) among (octet_value (at k line.octets) ∙ ap (option_map (λ (n : ℕ). n ∷ [])) e)

  pub octet_is : (k : OctetKind) → OctetIs m line.net (type_of k) (at k line.octets)
  octet_is k = octet_from k (at k line.octets) refl

  -- one of two values is said, where the value is known
  flag_said : (k : OctetKind) (n flag : ℕ) → at k line.octets ≡ Some n → SaysFlag m line.net (type_of k) flag → (n ≡ flag) ⊎ (n ≡ 3)
  flag_said k n flag e (inl s) = inl (same_one n flag (sym (ap (option_map (λ (i : ℕ). i ∷ [])) e) ∙ says_only k (flag ∷ []) s))
  flag_said k n flag e (inr s) = inr (same_one n 3 (sym (ap (option_map (λ (i : ℕ). i ∷ [])) e) ∙ says_only k (3 ∷ []) s))

  none_flag : (k : OctetKind) (flag : ℕ) → at k line.octets ≡ None → SaysFlag m line.net (type_of k) flag → ⊥
  none_flag k flag e (inl s) = octet_from k None e (flag ∷ []) s
  none_flag k flag e (inr s) = octet_from k None e (3 ∷ []) s

  apart : (n flag : ℕ) → (n ≡ flag → ⊥) → (n ≡ 3 → ⊥) → (n ≡ flag) ⊎ (n ≡ 3) → ⊥
  apart n flag a b h4 = grind (arith, common_steps)

  pub flags_are : (k : OctetKind) (a b : Bool) → at k line.octets ≡ flags_number a b → (IsTrue a ↔ SaysFlag m line.net (type_of k) 1) × (IsTrue b ↔ SaysFlag m line.net (type_of k) 2)
  flags_are k false false e = ((λ t. cc, λ s. absurd (none_flag k 1 e s)), (λ t. cc, λ s. absurd (none_flag k 2 e s)))
  flags_are k true false e = ((λ t. inl (octet_from k (Some 1) e), λ s. refl), (λ t. cc, λ s. absurd (apart 1 2 (λ f. omega (arith, f)) (λ f. omega (arith, f)) (flag_said k 1 2 e s))))
  flags_are k false true e = ((λ t. cc, λ s. absurd (apart 2 1 (λ f. omega (arith, f)) (λ f. omega (arith, f)) (flag_said k 2 1 e s))), (λ t. inl (octet_from k (Some 2) e), λ s. refl))
  flags_are k true true e = ((λ t. inr (octet_from k (Some 3) e), λ s. refl), (λ t. inr (octet_from k (Some 3) e), λ s. refl))

  -- a metric that is said is the line's
  from_metric : (k j : MetricKind) (o : Option Metric) (x y : ℕ) → metric_of k line.metrics ≡ o → option_map (metric_octets k) o ≡ Some (x ∷ (y ∷ [])) → has x (flag_of j) ≡ true → metric_of j line.metrics ≡ Some (metric_in x y)
  from_metric k j o x y of e flag = grind (arith, common_steps, same_two, same_kind, metric_flag, metric_again)

  pub shown : (j : MetricKind) (metric : Metric) → ShowsMetric m line.net j metric → metric_of j line.metrics ≡ Some metric
  shown j metric (x, y, s, flag, is) =
      let (c, kind, v) = line_says LINK_METRIC (x ∷ (y ∷ [])) s in
      let (k, same) = metric_column c kind in
      let value : value_of (column_of k) line ≡ Some (x ∷ (y ∷ [])) = subst (λ (d : AddressTlvKind). value_of d line ≡ Some (x ∷ (y ∷ []))) same v in
      from_metric k j (metric_of k line.metrics) x y refl (sym (metric_value k line) ∙ value) flag ∙ ap Some (sym is)

  metric_from : (k : MetricKind) (o : Option Metric) → metric_of k line.metrics ≡ o → MetricIs m line.net k o
  metric_from k None e = λ metric s. (let f = shown k metric s in cc)
  metric_from k (Some metric) e =
      let value : value_of (column_of k) line ≡ Some (metric_octets k metric) = metric_value k line ∙ ap (option_map (metric_octets k)) e in (
        flag_of k + metric.code / 256,
        metric.code % 256,
        subst (λ (kind : ℕ). HasValue m line.net kind (metric_octets k metric)) (column_kind k) (says m lines are line (column_of k) (metric_octets k metric) among value),
        has_flag k metric,
        metric_again k metric,
      )

  pub metric_is : (k : MetricKind) → MetricIs m line.net k (metric_of k line.metrics)
  metric_is k = metric_from k (metric_of k line.metrics) refl

  -- each metric that is said has two octets
  pub two_octets : (octets : List ℕ) → HasValue m line.net LINK_METRIC octets → (x : ℕ) × (y : ℕ) × (octets ≡ x ∷ (y ∷ []))
  two_octets octets s =
      let (c, kind, v) = line_says LINK_METRIC octets s in
      let (k, same) = metric_column c kind in
      let value : value_of (column_of k) line ≡ Some octets = subst (λ (d : AddressTlvKind). value_of d line ≡ Some octets) same v in
      from k (metric_of k line.metrics) (sym (metric_value k line) ∙ value)
    where
      from : (k : MetricKind) (o : Option Metric) → option_map (metric_octets k) o ≡ Some octets → (x : ℕ) × (y : ℕ) × (octets ≡ x ∷ (y ∷ []))
      from k None e = cc
      from k (Some metric) e = (flag_of k + metric.code / 256, metric.code % 256, cc)
