-- What a message of lines says of the rows that the lines are of.
use Rattle.mesh_wire.proofs.Common.{◌≡◌, ℕ, inl, inr, List, [], ◌∷◌, length, map, refl, sym, ap, subst, ◌∙◌, ◌↔◌, Contains, AllPairs, Some, Bool, IsTrue, option_map, NetAddr, Metric, IsBefore, MessageFields, TlvFields, AddressTlvKind, AddressRecord, OctetKind, LINK_METRIC, kind_of, value_of, MetricKind, metric_of, ShowsMetric, MetricIs, HasWrongMetric, type_of, at, flags_number, octets_of, HoldsAddress, HasPart, HasValue, HasTwoValues, OctetIs, SaysFlag, AreRows, AreBlocks, contains_map as mapped, contains_map_cases as unmapped, same_some}
use Rattle.mesh_wire.proofs.Laid.{said, stands, standing_line}
use Rattle.mesh_wire.proofs.LinesSay.{says_only, octet_is, flags_are, metric_is, two_octets, shown}
use Rattle.mesh_wire.proofs.RowLines.{one_line}

module _ {Row : Type 0} (line_of : Row → AddressRecord) (rows : List Row) (m : MessageFields) (are : AreBlocks (map line_of rows) m.blocks) (up : AllPairs (λ (a b : Row). IsBefore (line_of a).net (line_of b).net) rows) where
  unique : (a b : AddressRecord) → Contains (map line_of rows) a → Contains (map line_of rows) b → a.net ≡ b.net → a ≡ b
  unique = one_line (λ (row : Row). (line_of row).net) line_of rows (λ row. refl) up

  among : (row : Row) → Contains rows row → Contains (map line_of rows) (line_of row)
  among row there = mapped line_of rows row there

  row_stands : (row : Row) → Contains rows row → HoldsAddress m (line_of row).net
  row_stands row there = stands m (map line_of rows) are (line_of row) (among row there)

  row_at : (net : NetAddr) → HoldsAddress m net → (row : Row) × Contains rows row × ((line_of row).net ≡ net)
  row_at net at =
      let (line, on, of) = standing_line m (map line_of rows) are net at in
      let (row, there, is) = unmapped line_of rows line on in
      (row, there, ap (λ (l : AddressRecord). l.net) is ∙ of)

  -- rows that are true are those of the message
  pub rows_said : (IsRow : Row → Type 0) → ((row : Row) → Contains rows row → IsRow row) → AreRows m (λ (row : Row). (line_of row).net) IsRow rows
  rows_said IsRow is = record { ascending = up; each = λ row there. (row_stands row there, is row there); all = row_at }

  -- what is said of an address is a part of a row
  pub part_there : (net : NetAddr) (part : TlvFields) → HasPart m net part → (row : Row) × (c : AddressTlvKind) × Contains rows row × ((line_of row).net ≡ net) × (part.kind ≡ kind_of c) × (part.ext ≡ 0) × (value_of c (line_of row) ≡ Some (octets_of part.value))
  part_there net part p =
      let (line, c, on, of, k, ext, v) = said m (map line_of rows) are net part p in
      let (row, there, same) = unmapped line_of rows line on in
      (row, c, there, ap (λ (l : AddressRecord). l.net) same ∙ of, k, ext, ap (value_of c) same ∙ v)

  row_there : (net : NetAddr) (kind : ℕ) (octets : List ℕ) → HasValue m net kind octets → (row : Row) × Contains rows row × ((line_of row).net ≡ net)
  row_there net kind octets (value, part, is) = let (row, c, there, of, k, ext, v) = part_there net (record { kind = kind; ext = 0; value = value }) part in (row, there, of)

  pub said_of : (row : Row) → Contains rows row → (k : OctetKind) (kind : ℕ) → kind ≡ type_of k → (octets : List ℕ) → HasValue m (line_of row).net kind octets → option_map (λ (n : ℕ). n ∷ []) (at k (line_of row).octets) ≡ Some octets
  said_of row there k kind e octets s =
      says_only m (map line_of rows) are unique (line_of row) (among row there) k octets (subst (λ (n : ℕ). HasValue m (line_of row).net n octets) e s)

  at_row : (row : Row) (net : NetAddr) → (line_of row).net ≡ net → (kind : ℕ) (octets : List ℕ) → HasValue m net kind octets → HasValue m (line_of row).net kind octets
  at_row row net e kind octets s = subst (λ (n : NetAddr). HasValue m n kind octets) (sym e) s

  -- what is said of an address, of a type whose values are octets, is the value of its row
  pub row_of : (k : OctetKind) (net : NetAddr) (kind : ℕ) → kind ≡ type_of k → (octets : List ℕ) → HasValue m net kind octets → (row : Row) × Contains rows row × ((line_of row).net ≡ net) × (option_map (λ (n : ℕ). n ∷ []) (at k (line_of row).octets) ≡ Some octets)
  row_of k net kind e octets s =
      let (row, there, of) = row_there net kind octets s in
      (row, there, of, said_of row there k kind e octets (at_row row net of kind octets s))

  -- it is one
  pub not_two : (k : OctetKind) (net : NetAddr) (kind : ℕ) → kind ≡ type_of k → HasTwoValues m net kind → ⊥
  not_two k net kind e (x, y, s, t, other) =
      let (row, there, of, v) = row_of k net kind e x s in
      other (same_some v (said_of row there k kind e y (at_row row net of kind y t)))

  -- one metric of a kind
  one_metric : (row : Row) → Contains rows row → (k : MetricKind) (a b : Metric) → ShowsMetric m (line_of row).net k a → ShowsMetric m (line_of row).net k b → a ≡ b
  one_metric row there k a b s t = same_some (shown m (map line_of rows) are unique (line_of row) (among row there) k a s) (shown m (map line_of rows) are unique (line_of row) (among row there) k b t)

  -- metrics are of two octets, one of each kind on an address
  pub right_metric : (net : NetAddr) → HasWrongMetric m net → ⊥
  right_metric net (inl (octets, s, other)) =
      let (row, there, of) = row_there net LINK_METRIC octets s in
      let (x, y, is) = two_octets m (map line_of rows) are unique (line_of row) (among row there) octets (at_row row net of LINK_METRIC octets s) in
      other (ap length is)
  right_metric net (inr (k, a, b, s, t, other)) =
      let (high, low, is, flag, shown_is) = s in
      let (row, there, of) = row_there net LINK_METRIC (high ∷ (low ∷ [])) is in
      other (one_metric row there k a b (subst (λ (p : NetAddr). ShowsMetric m p k a) (sym of) s) (subst (λ (p : NetAddr). ShowsMetric m p k b) (sym of) t))

  -- ---- what is said of a row

  module _ (row : Row) (there : Contains rows row) where
    pub octet_said : (k : OctetKind) → OctetIs m (line_of row).net (type_of k) (at k (line_of row).octets)
    octet_said = octet_is m (map line_of rows) are unique (line_of row) (among row there)

    pub flags_said : (k : OctetKind) (a b : Bool) → at k (line_of row).octets ≡ flags_number a b → (IsTrue a ↔ SaysFlag m (line_of row).net (type_of k) 1) × (IsTrue b ↔ SaysFlag m (line_of row).net (type_of k) 2)
    flags_said = flags_are m (map line_of rows) are unique (line_of row) (among row there)

    pub metric_said : (k : MetricKind) → MetricIs m (line_of row).net k (metric_of k (line_of row).metrics)
    metric_said = metric_is m (map line_of rows) are unique (line_of row) (among row there)
