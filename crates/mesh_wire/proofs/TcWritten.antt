-- What is written of a TC reads as it, breaks no rule, and has nothing that is ignored.
use Rattle.mesh_wire.proofs.Common.{common_steps, ◌≡◌, ℕ, ◌/◌, ◌%◌, ◌≤◌, ◌⊎◌, inr, List, [], ◌∷◌, length, take, map, refl, sym, ap, subst, ◌∙◌, arith, length-take, Contains, AllPairs, Option, Some, None, IsTrue, Bool, cond, option_map, is_some, length-map, NetAddr, TcRow, Tc, IsBefore, time_at_distance, IsTimeValue, AreOneType, HaveTypeWhole, Span, MessageFields, PacketFields, Spells, IsEncodableMessage, LeastForm, TlvFields, AddressTlvKind, Gateway, HasTcValues, heading_of, IsTcMessage, FitsAlone, VALIDITY_TIME, NBR_ADDR_TYPE, GATEWAY, LINK_METRIC, CONT_SEQ_NUM, kind_of, value_of, tc_line, tc_kinds, flags_number, IsOctetOf, Near_out, octets_of, values_of, HasPart, HasValue, Keeps, IsReadTcRow, TcIs, BreaksTc, AddressWidth, NoOriginator, NoSequence, NoValidity, WrongInterval, Content, AddrType as AddrTypeRule, TwoAddrTypes, ShortPrefix, GatewayOctet, TwoGateways, Beside, WrongMetric, distance_of, ValidityIs, IsSoleMessage, HasFlag, IsReadOfTcAddress, WritesTc, WritesLeastTc, alone, ReadsBack, none_not}
use Rattle.mesh_wire.specs.declared.octets.OctetKind.TheVariants.{AddrType}
use Rattle.mesh_wire.proofs.Fits.{message_fits, HasFewParts, narrow_most, metric_most, lines_few, fits_alone}
use Rattle.mesh_wire.proofs.Headings.{validity_told, interval_is, interval_told, content_is, read_of_tc}
use Rattle.mesh_wire.proofs.HelloWritten.{originator_is, flags_octet, metric_flagged}
use Rattle.mesh_wire.proofs.LinesSay.{metric_value}
use Rattle.mesh_wire.proofs.OneTc.{one_tc}
use Rattle.mesh_wire.proofs.RowLines.{reads_back}
use Rattle.mesh_wire.proofs.Further.{further}
use Rattle.mesh_wire.proofs.RowsSay.{rows_said, part_there, said_of, row_of, not_two, right_metric, octet_said, flags_said, metric_said}

few_of : (row : TcRow) → HasFewParts (tc_line row)
few_of row = let l = tc_line row in omega (arith, narrow_most tc_kinds l, metric_most l)

-- a flag is set where a type is said
set_of : (a b : Bool) (octets : List ℕ) → option_map (λ (n : ℕ). n ∷ []) (flags_number a b) ≡ Some octets → IsTrue a ⊎ IsTrue b
set_of a b octets e = grind (arith, common_steps)

-- the one octet of a distance
distance_octet : (o : Option ℕ) (octets : List ℕ) → option_map (λ (n : ℕ). n ∷ []) o ≡ Some octets → IsOctetOf Gateway octets
distance_octet o octets e = grind (arith, common_steps)

part_of : (row : TcRow) (kind : ℕ) (octets : List ℕ) (c : AddressTlvKind) → kind ≡ kind_of c → value_of c (tc_line row) ≡ Some octets → (kind ≡ NBR_ADDR_TYPE) ⊎ ((kind ≡ GATEWAY) ⊎ ((kind ≡ LINK_METRIC) × HasFlag Near_out octets))
part_of row kind octets c e v = grind (arith, common_steps, metric_flagged, metric_value)

module _ (tc : Tc) (hop_limit : ℕ) (validity values : List ℕ) (m : MessageFields) (h : IsTcMessage tc hop_limit validity (map tc_line tc.rows) values m) (has : HasTcValues tc (map tc_line tc.rows) values)
    (up : AllPairs (λ (a b : TcRow). IsBefore a.dest b.dest) tc.rows) (one_type : AreOneType tc.rows) (is_whole : HaveTypeWhole tc.rows)
    (value : IsTimeValue validity) (near : time_at_distance 1 validity ≡ tc.validity) where
  row_is : (row : TcRow) → Contains tc.rows row → IsReadTcRow m row
  row_is row there =
      let flags = flags_said tc_line tc.rows m h.blocks up row there AddrType row.origin row.routable refl in record {
        origin = flags.0;
        routable = flags.1;
        gateway_is = octet_said tc_line tc.rows m h.blocks up row there Gateway;
        metric = metric_said tc_line tc.rows m h.blocks up row there Near_out;
      }

  three : take 3 values ≡ has.0 ∷ (tc.ansn / 256 ∷ (tc.ansn % 256 ∷ []))
  three = let (i, is_i, is) = has in ap (take 3) is

  heading : m.tlvs ≡ heading_of validity (has.0 ∷ (tc.ansn / 256 ∷ (tc.ansn % 256 ∷ []))) (is_some tc.interval) CONT_SEQ_NUM (cond tc.complete 0 1)
  heading = h.tlvs ∙ ap (λ (l : List ℕ). heading_of validity l (is_some tc.interval) CONT_SEQ_NUM (cond tc.complete 0 1)) three

  validity_there : values_of VALIDITY_TIME m ≡ validity ∷ []
  validity_there = validity_told validity has.0 (tc.ansn / 256 ∷ (tc.ansn % 256 ∷ [])) (cond tc.complete 0 1) m CONT_SEQ_NUM (inr refl) (is_some tc.interval) heading

  near_by : distance_of m.count ≡ 1
  near_by = ap distance_of h.count

  validity_read : ValidityIs m (distance_of m.count) tc.validity
  validity_read = subst (ValidityIs m (distance_of m.count)) (ap (λ (d : ℕ). time_at_distance d validity) near_by ∙ near) (further m validity value validity_there (distance_of m.count))

  tc_is : TcIs m tc
  tc_is = record {
    originator = originator_is m.originator (Some tc.originator) h.originator;
    sequence = h.sequence;
    content = content_is validity has.0 (is_some tc.interval) m tc.ansn tc.complete heading;
    validity = validity_read;
    interval = interval_is validity has.0 (tc.ansn / 256 ∷ (tc.ansn % 256 ∷ [])) (cond tc.complete 0 1) m CONT_SEQ_NUM (inr refl) (distance_of m.count) tc.interval heading has.1;
    rows = rows_said tc_line tc.rows m h.blocks up (IsReadTcRow m) row_is;
  }

  -- ---- rules

  type_of : (net : NetAddr) (octets : List ℕ) → HasValue m net NBR_ADDR_TYPE octets → (row : TcRow) × Contains tc.rows row × (row.dest ≡ net) × (option_map (λ (n : ℕ). n ∷ []) (flags_number row.origin row.routable) ≡ Some octets)
  type_of net octets s = row_of tc_line tc.rows m h.blocks up AddrType net NBR_ADDR_TYPE refl octets s

  gateway_of : (net : NetAddr) (octets : List ℕ) → HasValue m net GATEWAY octets → (row : TcRow) × Contains tc.rows row × (row.dest ≡ net) × (option_map (λ (n : ℕ). n ∷ []) row.gateway ≡ Some octets)
  gateway_of net octets s = row_of tc_line tc.rows m h.blocks up Gateway net GATEWAY refl octets s

  -- a row with a type has no gateway
  no_gateway : (row : TcRow) → Contains tc.rows row → (octets : List ℕ) → HasValue m row.dest NBR_ADDR_TYPE octets → row.gateway ≡ None
  no_gateway row there octets s =
      one_type row there (set_of row.origin row.routable octets (said_of tc_line tc.rows m h.blocks up row there AddrType NBR_ADDR_TYPE refl octets s))

  keeps : Keeps (BreaksTc m)
  keeps n a (AddressWidth wide) = wide h.width
  keeps n a (NoOriginator none) = let e = h.originator in cc
  keeps n a (NoSequence none) = let e = h.sequence in cc
  keeps n a (NoValidity none) = none tc.validity tc_is.validity
  keeps n a (WrongInterval none) = none tc.interval tc_is.interval
  keeps n a (Content none) = none tc.ansn tc.complete tc_is.content
  keeps n a (AddrTypeRule net (octets, s, wrong)) =
      let (row, there, of, v) = type_of net octets s in
      wrong (flags_octet row.origin row.routable octets v)
  keeps n a (TwoAddrTypes net two) = not_two tc_line tc.rows m h.blocks up AddrType net NBR_ADDR_TYPE refl two
  keeps n a (ShortPrefix net (octets, s) short) =
      let (row, there, of, v) = type_of net octets s in
      omega (arith, short, is_whole row there (set_of row.origin row.routable octets v), ap (λ (x : NetAddr). x.prefix) of)
  keeps n a (GatewayOctet net (octets, s, other)) =
      let (row, there, of, v) = gateway_of net octets s in
      other (distance_octet row.gateway octets v)
  keeps n a (TwoGateways net two) = not_two tc_line tc.rows m h.blocks up Gateway net GATEWAY refl two
  keeps n a (Beside net (octets, s) (x, t)) =
      let (row, there, of, v) = gateway_of net octets s in
      let none = no_gateway row there x (subst (λ (p : NetAddr). HasValue m p NBR_ADDR_TYPE x) (sym of) t) in
      none_not {o = option_map (λ (n : ℕ). n ∷ []) row.gateway} (ap (option_map (λ (n : ℕ). n ∷ [])) none) v
  keeps n a (WrongMetric net wrong) = right_metric tc_line tc.rows m h.blocks up net wrong

  -- ---- the whole

  part_read : (net : NetAddr) (part : TlvFields) → HasPart m net part → IsReadOfTcAddress part
  part_read net part p =
      let (row, c, there, here, k, ext, value) = part_there tc_line tc.rows m h.blocks up net part p in
      record { kind = part_of row part.kind (octets_of part.value) c k value; ext = ext }

  pub fits : length tc.rows ≤ 1100 → length validity ≤ 17 → FitsAlone m
  fits most short = fits_alone m (map tc_line tc.rows) validity (take 3 values) (is_some tc.interval) CONT_SEQ_NUM (cond tc.complete 0 1) h.width short (omega (arith, length-take 3 values)) h.tlvs h.blocks (omega (arith, most, length-map tc.rows tc_line)) (lines_few tc_line tc.rows few_of)

  pub encodable : IsEncodableMessage m
  encodable = message_fits m (map tc_line tc.rows) (Some tc.originator) h.width h.originator h.blocks

  pub written : (bytes : List ℕ) → IsSoleMessage m bytes → WritesTc tc hop_limit validity bytes
  written bytes is = record {
    message = m;
    packet = is;
    kind = h.kind;
    limit = h.limit;
    count = h.count;
    reads = tc_is;
    validity_is = validity_there;
    keeps = keeps;
    tlvs = read_of_tc m validity (take 3 values) (is_some tc.interval) tc.complete h.tlvs;
    parts = part_read;
  }

  pub written_least : (bytes : List ℕ) → IsSoleMessage m bytes → LeastForm (alone m) bytes → WritesLeastTc tc hop_limit validity bytes
  unfolding written
  written_least bytes is least = record {
    writes = written bytes is;
    least = least;
    interval_is = interval_told validity has.0 (tc.ansn / 256 ∷ (tc.ansn % 256 ∷ [])) (cond tc.complete 0 1) m CONT_SEQ_NUM (inr refl) tc.interval heading has.1;
  }

  pub back : (bytes : List ℕ) → IsSoleMessage m bytes → (packet : PacketFields) (spans : List Span) → Spells packet spans bytes → ReadsBack 1 TcIs BreaksTc tc packet
  back bytes is = reads_back 1 TcIs BreaksTc tc m h.kind keeps (λ other reads. one_tc m keeps other tc reads tc_is) bytes is
