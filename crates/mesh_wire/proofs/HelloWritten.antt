-- What is written of a HELLO reads as it, breaks no rule, and has nothing that is ignored.
use Rattle.mesh_wire.proofs.Common.{common_steps, ◌≡◌, ℕ, ◌≤◌, ◌⊎◌, inl, inr, List, [], ◌∷◌, length, take, map, refl, sym, ap, subst, ◌∙◌, arith, length-take, slice_range, drop, Contains, AllPairs, Option, Some, None, IsSome, Bool, option_map, is_some, length-map, Contains-append_cases, Addr4, NetAddr, LocalIf, HelloRow, Hello, Metric, IsBefore, RawAddr, HaveSenderAlone, HaveStatusWhole, IsAlone, MessageFields, PacketFields, Span, Spells, IsEncodableMessage, LeastForm, TlvFields, AddressTlvKind, Octet, LinkIn, LinkOut, NearIn, NearOut, OctetKind, Local, Mpr, octet_of, whole, HasHelloValues, heading_of, IsHelloMessage, FitsAlone, local_value, row_octet, OriginatorIs, TellsOther, IsReadHelloRow, HelloIs, sender_row, BreaksHello, HopLimit, HopCount, WrongWilling, Undefined, TwoValues, VALIDITY_TIME, LOCAL_IF, LINK_METRIC, MPR, MPR_WILLING, kind_of, value_of, hello_line, MetricKind, Link_in, Link_out, Near_in, Near_out, metric_of, statuses, hello_kinds, type_of, at, flags_number, IsOctetOf, octets_of, values_of, HasType, HasPart, HasValue, OctetIs, Keeps, IsSoleMessage, HasFlag, IsReadOfOther, IsReadOfHelloAddress, WritesHello, WritesLeastHello, alone, ReadsBack, contains_one, none_not, some_equal}
use Rattle.mesh_wire.specs.HelloRules.{AddressWidth, NoValidity, WrongInterval, ShortPrefix, WrongMetric}
use Rattle.mesh_wire.proofs.Fits.{message_fits, HasFewParts, narrow_most, metric_most, lines_few, fits_alone}
use Rattle.mesh_wire.proofs.Headings.{validity_told, one_validity, interval_is, interval_told, willing_is, read_of_hello}
use Rattle.mesh_wire.proofs.Laid.{whole_number}
use Rattle.mesh_wire.proofs.LinesSay.{octet_value, metric_octets, has_flag, metric_value, column_of}
use Rattle.mesh_wire.proofs.OctetKinds.{at_by_kind}
use Rattle.mesh_wire.proofs.OneHello.{one_hello}
use Rattle.mesh_wire.proofs.RowLines.{reads_back}
use Rattle.mesh_wire.proofs.Statuses.{apart, row_kind, defined, alone_row}
use Rattle.mesh_wire.proofs.RowsSay.{rows_said, part_there, said_of, row_of, not_two, right_metric, octet_said, flags_said, metric_said}

-- ---- fewest parts

few_of : (row : HelloRow) → HasFewParts (hello_line row)
few_of row = let l = hello_line row in omega (arith, narrow_most hello_kinds l, metric_most l)

-- ---- originator

pub originator_is : (a : Option RawAddr) (o : Option Addr4) → a ≡ option_map whole o → OriginatorIs a o
originator_is a o e = grind (arith, common_steps, whole_number)

-- ---- what is read of a part

pub local_or_not : {X : Type 0} (o : Option X) → (o ≡ None) ⊎ IsSome o
local_or_not o = grind (arith, common_steps)

pub flags_octet : (a b : Bool) (octets : List ℕ) → option_map (λ (n : ℕ). n ∷ []) (flags_number a b) ≡ Some octets → IsOctetOf Mpr octets
flags_octet a b octets e = grind (arith, common_steps)

pub metric_flagged : (k : MetricKind) (o : Option Metric) (octets : List ℕ) → option_map (metric_octets k) o ≡ Some octets → HasFlag k octets
metric_flagged k o octets e = grind (arith, common_steps, has_flag)

metric_read : (row : HelloRow) (k : MetricKind) (kind : ℕ) (octets : List ℕ) → kind ≡ LINK_METRIC → value_of (column_of k) (hello_line row) ≡ Some octets → IsReadOfOther kind octets
metric_read row k kind octets e v = inr (inr (e, (k, metric_flagged k (metric_of k row.metrics) octets (sym (metric_value k (hello_line row)) ∙ v))))

-- a value of a line is of a type of a HELLO
octet_line : (row : HelloRow) (k : OctetKind) (octets : List ℕ) → value_of (Octet k) (hello_line row) ≡ Some octets → (n : ℕ) × (octets ≡ n ∷ []) × (row_octet row k ≡ Some n)
octet_line row k octets v = by (row_octet row k) (ap (option_map (λ (n : ℕ). n ∷ [])) (sym (at_by_kind (row_octet row) k)) ∙ sym (octet_value (at k (hello_line row).octets)) ∙ v) refl
  where
    by : (o : Option ℕ) → option_map (λ (n : ℕ). n ∷ []) o ≡ Some octets → row_octet row k ≡ o → (n : ℕ) × (octets ≡ n ∷ []) × (row_octet row k ≡ Some n)
    by None e is = cc
    by (Some n) e is = (n, sym (some_equal (n ∷ []) octets e), is)

octet_read : (row : HelloRow) (kind : ℕ) (octets : List ℕ) (k : OctetKind) → kind ≡ type_of k → value_of (Octet k) (hello_line row) ≡ Some octets → IsReadOfOther kind octets
octet_read row kind octets k e v = grind (arith, common_steps, octet_line, Contains-append_cases, row_kind, contains_one, octet_value, type_of, flags_octet)

other_read : (row : HelloRow) (kind : ℕ) (octets : List ℕ) (c : AddressTlvKind) → kind ≡ kind_of c → value_of c (hello_line row) ≡ Some octets → IsReadOfOther kind octets
other_read row kind octets (Octet k) e v = octet_read row kind octets k e v
other_read row kind octets LinkIn e v = metric_read row Link_in kind octets e v
other_read row kind octets LinkOut e v = metric_read row Link_out kind octets e v
other_read row kind octets NearIn e v = metric_read row Near_in kind octets e v
other_read row kind octets NearOut e v = metric_read row Near_out kind octets e v

-- a type that is read is one of an octet, or that of metrics
pub read_kind : (kind : ℕ) (octets : List ℕ) → IsReadOfOther kind octets → ((k : OctetKind) × (kind ≡ type_of k) × (kind ≡ MPR → IsOctetOf Mpr octets)) ⊎ ((kind ≡ LINK_METRIC) × ((metric : MetricKind) × HasFlag metric octets))
read_kind kind octets (inl (k, among, e)) = inl (k, e, λ f. absurd ((apart kind (k, among, e)).0 f))
read_kind kind octets (inr (inl (e, is))) = inl (Mpr, e, λ f. is)
read_kind kind octets (inr (inr h)) = inr h

sender_read : (addr : NetAddr) (local : Option LocalIf) (kind : ℕ) (octets : List ℕ) (c : AddressTlvKind) → kind ≡ kind_of c → value_of c (hello_line (sender_row addr local)) ≡ Some octets → kind ≡ LOCAL_IF
sender_read addr local kind octets c e v = grind (arith, common_steps)

only_local : (row : HelloRow) (kind : ℕ) (octets : List ℕ) (c : AddressTlvKind) → kind ≡ kind_of c → value_of c (hello_line row) ≡ Some octets → IsAlone row → kind ≡ LOCAL_IF
only_local row kind octets c e v t = sender_read row.addr row.local kind octets c e (subst (λ (r : HelloRow). value_of c (hello_line r) ≡ Some octets) (alone_row row t) v)

-- ---- the rows

module _ (hello : Hello) (values : List ℕ) (m : MessageFields) (h : IsHelloMessage hello (map hello_line hello.rows) values m) (has : HasHelloValues hello (map hello_line hello.rows) values)
    (up : AllPairs (λ (a b : HelloRow). IsBefore a.addr b.addr) hello.rows) (sender : HaveSenderAlone hello.rows) (is_whole : HaveStatusWhole hello.rows) where
  other_is : (row : HelloRow) → Contains hello.rows row → TellsOther m row
  other_is row there =
      let flags = flags_said hello_line hello.rows m h.blocks up row there Mpr row.mpr.flooding row.mpr.routing refl in record {
        status = λ kind among. subst (OctetIs m row.addr (type_of kind)) (at_by_kind (row_octet row) kind) (octet_said hello_line hello.rows m h.blocks up row there kind);
        metric = metric_said hello_line hello.rows m h.blocks up row there;
        flooding = flags.0;
        routing = flags.1;
      }

  row_is : (row : HelloRow) → Contains hello.rows row → IsReadHelloRow m row
  row_is row there = record {
    local = octet_said hello_line hello.rows m h.blocks up row there Local;
    of_other = λ none. other_is row there;
    of_sender = sender row there;
  }

  first : take 1 values ≡ has.0 ∷ []
  first = let (v, i, is_v, is_i, is) = has in ap (take 1) is

  two : slice_range values 1 3 ≡ has.1 ∷ (octet_of hello.willing ∷ [])
  two = let (v, i, is_v, is_i, is) = has in ap (λ (l : List ℕ). slice_range l 1 3) is

  heading : m.tlvs ≡ heading_of (has.0 ∷ []) (has.1 ∷ (octet_of hello.willing ∷ [])) (is_some hello.interval) MPR_WILLING 0
  heading = h.tlvs ∙ ap (λ (l : List ℕ). heading_of l (slice_range values 1 3) (is_some hello.interval) MPR_WILLING 0) first ∙ ap (λ (l : List ℕ). heading_of (has.0 ∷ []) l (is_some hello.interval) MPR_WILLING 0) two

  validity_there : values_of VALIDITY_TIME m ≡ (has.0 ∷ []) ∷ []
  validity_there = validity_told (has.0 ∷ []) has.1 (octet_of hello.willing ∷ []) 0 m MPR_WILLING (inl refl) (is_some hello.interval) heading

  hello_is : HelloIs m hello
  hello_is = record {
    originator = originator_is m.originator hello.originator h.originator;
    validity = one_validity has.0 m 1 hello.validity validity_there has.2;
    interval = interval_is (has.0 ∷ []) has.1 (octet_of hello.willing ∷ []) 0 m MPR_WILLING (inl refl) 1 hello.interval heading has.3;
    willing = willing_is (has.0 ∷ []) has.1 (is_some hello.interval) m hello.willing heading;
    rows = rows_said hello_line hello.rows m h.blocks up (IsReadHelloRow m) row_is;
  }

  -- ---- rules

  -- a status that is said of an address is its row's
  record StatusIs (net : NetAddr) (kind : OctetKind) (octets : List ℕ) : Type 0 where
    row : HelloRow
    there : Contains hello.rows row
    of : row.addr ≡ net
    value : IsOctetOf kind octets
    shown_is : IsSome row.local ⊎ (IsSome row.link ⊎ IsSome row.other)

  status_is : (net : NetAddr) (kind : OctetKind) → Contains statuses kind → (octets : List ℕ) → HasValue m net (type_of kind) octets → StatusIs net kind octets
  status_is net kind among octets s =
      let (row, there, of, v) = row_of hello_line hello.rows m h.blocks up kind net (type_of kind) refl octets s in
      let (n, is, at_row) = octet_line row kind octets (octet_value (at kind (hello_line row).octets) ∙ v) in
      let (valid, some) = defined row kind among n at_row in
      record { row = row; there = there; of = of; value = (n, is, valid); shown_is = some }

  keeps : Keeps (BreaksHello m)
  keeps n a (AddressWidth wide) = wide h.width
  keeps n a (HopLimit limit is other) = let e = h.limit in cc
  keeps n a (HopCount count is other) = let e = h.count in cc
  keeps n a (NoValidity none) = none hello.validity hello_is.validity
  keeps n a (WrongInterval none) = none hello.interval hello_is.interval
  keeps n a (WrongWilling none) = let (octet, is, f, r) = hello_is.willing in none octet is
  keeps n a (Undefined net kind among (octets, s, wrong)) = wrong (status_is net kind among octets s).value
  keeps n a (TwoValues net kind among two) = not_two hello_line hello.rows m h.blocks up kind net (type_of kind) refl two
  keeps n a (ShortPrefix net kind among (octets, s) short) =
      let st = status_is net kind among octets s in
      omega (arith, short, is_whole st.row st.there st.shown_is, ap (λ (x : NetAddr). x.prefix) st.of)
  keeps n a (WrongMetric net wrong) = right_metric hello_line hello.rows m h.blocks up net wrong

  -- ---- nothing is ignored

  no_local : (row : HelloRow) → Contains hello.rows row → row.local ≡ None → HasType m row.addr LOCAL_IF → ⊥
  no_local row there e (octets, s) =
      none_not {o = option_map (λ (n : ℕ). n ∷ []) (option_map local_value row.local)} (ap (λ (o : Option LocalIf). option_map (λ (n : ℕ). n ∷ []) (option_map local_value o)) e)
      (said_of hello_line hello.rows m h.blocks up row there Local LOCAL_IF refl octets s)

  part_read : (net : NetAddr) (part : TlvFields) → HasPart m net part → IsReadOfHelloAddress m net part
  part_read net part p =
      let (row, c, there, here, k, ext, value) = part_there hello_line hello.rows m h.blocks up net part p in
      record {
        kind = elim (local_or_not row.local) [
          | inl e ↦ inr (subst (λ (n : NetAddr). HasType m n LOCAL_IF → ⊥) here (no_local row there e), other_read row part.kind (octets_of part.value) c k value)
          | inr some ↦ inl (only_local row part.kind (octets_of part.value) c k value (sender row there some))
        ];
        ext = ext;
      }

  -- ---- the whole

  pub fits : length hello.rows ≤ 1100 → FitsAlone m
  fits most = fits_alone m (map hello_line hello.rows) (take 1 values) (slice_range values 1 3) (is_some hello.interval) MPR_WILLING 0 h.width (omega (arith, length-take 1 values)) (omega (arith, length-take 2 (drop 1 values))) h.tlvs h.blocks (omega (arith, most, length-map hello.rows hello_line)) (lines_few hello_line hello.rows few_of)

  pub encodable : IsEncodableMessage m
  encodable = message_fits m (map hello_line hello.rows) hello.originator h.width h.originator h.blocks

  pub written : (bytes : List ℕ) → IsSoleMessage m bytes → WritesHello hello bytes
  written bytes is = record {
    message = m;
    packet = is;
    kind = h.kind;
    limit = h.limit;
    count = h.count;
    sequence = h.sequence;
    reads = hello_is;
    keeps = keeps;
    tlvs = read_of_hello m (take 1 values) (slice_range values 1 3) (is_some hello.interval) h.tlvs;
    parts = part_read;
  }

  pub written_least : (bytes : List ℕ) → IsSoleMessage m bytes → LeastForm (alone m) bytes → WritesLeastHello hello bytes
  unfolding written
  written_least bytes is least = record {
    writes = written bytes is;
    least = least;
    validity_is = (has.0, validity_there, has.2.1);
    interval_is = interval_told (has.0 ∷ []) has.1 (octet_of hello.willing ∷ []) 0 m MPR_WILLING (inl refl) hello.interval heading has.3;
  }

  pub back : (bytes : List ℕ) → IsSoleMessage m bytes → (packet : PacketFields) (spans : List Span) → Spells packet spans bytes → ReadsBack 0 HelloIs BreaksHello hello packet
  back bytes is = reads_back 0 HelloIs BreaksHello hello m h.kind keeps (λ other reads. one_hello m keeps other hello reads hello_is) bytes is
