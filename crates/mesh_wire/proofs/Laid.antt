-- Blocks of lines say what the lines say.
use Rattle.mesh_wire.proofs.Common.{common_steps, ◌≡◌, ℕ, ◌+◌, ◌*◌, ◌/◌, ◌%◌, ◌<◌, ◌≤◌, inl, inr, List, [], ◌∷◌, ◌++◌, length, map, refl, sym, ap, subst, ◌∙◌, arith, slice_get, Contains, Option, Some, None, option_map, flat_map, mod-eq-sub-div-mul, div-mul-le_self, take_all, Contains-append_left, Contains-append_right, Contains-append_cases, flat_map-append, slice_get-map, Addr4, NetAddr, same_net, address_in, RawAddr, BlockFields, MessageFields, TlvFields, AddrTlvFields, least_addr_tlv, AddressTlvKind, Octet, LinkIn, LinkOut, NearIn, NearOut, AddressRecord, kind_of, most_of, value_of, columns, metric_columns, kinds, octets_of, IsIn, value_at, HoldsAddressAt, HoldsAddress, HasPart, HasValue, host_octets, raw_of, present, IsColumnTlv, LaysAll, IsBlock, AreBlocks, contains_at as at_place, contains_map, place_of, contains_head as at_head, contains_tail as in_tail, contains_cases, contains_none as none_in, same_addr, same_some}
use Rattle.mesh_wire.proofs.OctetKinds.{each_kind}

-- ---- places of lists

-- ---- addresses as they stand in a block

number_again : (net : NetAddr) → address_in (raw_of net).octets ≡ net.addr.0
number_again net = omega arith

pub whole_number : (a : Addr4) → address_in (host_octets a.0) ≡ a.0
whole_number a = omega arith

cleared : (n m : ℕ) → n % m ≡ 0 → n / m * m ≡ n
cleared n m e = omega (arith, e, mod-eq-sub-div-mul n m, div-mul-le_self n m)

pub is_in : (net : NetAddr) → IsIn (raw_of net) net
is_in net = grind (arith, common_steps, number_again, cleared)

pub in_same : (net other : NetAddr) → IsIn (raw_of net) other → net ≡ other
in_same net other h = same_net net other (same_addr net.addr other.addr ((is_in net).number ∙ sym h.number)) (sym h.prefix)

-- ---- columns

pub each_column : (c : AddressTlvKind) → Contains columns c
each_column (Octet k) = Contains-append_left (map Octet kinds) metric_columns (Octet k) (contains_map Octet kinds k (each_kind k))
each_column LinkIn = Contains-append_right (map Octet kinds) metric_columns LinkIn (at_place metric_columns 0 LinkIn refl)
each_column LinkOut = Contains-append_right (map Octet kinds) metric_columns LinkOut (at_place metric_columns 1 LinkOut refl)
each_column NearIn = Contains-append_right (map Octet kinds) metric_columns NearIn (at_place metric_columns 2 NearIn refl)
each_column NearOut = Contains-append_right (map Octet kinds) metric_columns NearOut (at_place metric_columns 3 NearOut refl)

pub runs_of_all : (cs : List AddressTlvKind) (lines : List AddressRecord) (tlvs : List AddrTlvFields) → LaysAll cs lines tlvs → (tlv : AddrTlvFields) → Contains tlvs tlv → (c : AddressTlvKind) × IsColumnTlv c lines tlv
runs_of_all [] lines tlvs h tlv has = absurd (none_in tlv (subst (λ (l : List AddrTlvFields). Contains l tlv) h has))
runs_of_all (c ∷ cs) lines tlvs (first, others, is, h, k) tlv has =
    let there : Contains (first ++ others) tlv = subst (λ (l : List AddrTlvFields). Contains l tlv) is has in
    elim (Contains-append_cases first others tlv there) [
      | inl here ↦ (c, h.each tlv here)
      | inr later ↦ runs_of_all cs lines others k tlv later
    ]

-- the run that covers a place
abbrev Covered : AddressTlvKind → List AddressRecord → List AddrTlvFields → ℕ → Type 0
Covered c lines tlvs place = (tlv : AddrTlvFields) × Contains tlvs tlv × IsColumnTlv c lines tlv × (tlv.first ≤ place) × (place ≤ tlv.last)

covered_in : (cs : List AddressTlvKind) (lines : List AddressRecord) (tlvs : List AddrTlvFields) → LaysAll cs lines tlvs → (c : AddressTlvKind) → Contains cs c → (place : ℕ) (line : AddressRecord) (octets : List ℕ) →
    place < length lines → slice_get lines place ≡ Some line → value_of c line ≡ Some octets → Covered c lines tlvs place
covered_in [] lines tlvs h c among place line octets lt at is = absurd (none_in c among)
covered_in (d ∷ cs) lines tlvs (first, others, whole, h, k) c among place line octets lt at is = elim (contains_cases d cs c among) [
  | inl same ↦
      let said : value_of d line ≡ Some octets = subst (λ (x : AddressTlvKind). value_of x line ≡ Some octets) (sym same) is in
      let (tlv, has, low, high) = h.all place line octets lt at said in
      (tlv, subst (λ (l : List AddrTlvFields). Contains l tlv) (sym whole) (Contains-append_left first others tlv has), subst (λ (x : AddressTlvKind). IsColumnTlv x lines tlv) same (h.each tlv has), low, high)
  | inr later ↦
      let (tlv, has, run, low, high) = covered_in cs lines others k c later place line octets lt at is in
      (tlv, subst (λ (l : List AddrTlvFields). Contains l tlv) (sym whole) (Contains-append_right first others tlv has), run, low, high)
]

-- the most octets that the parts of lines take in columns
abbrev pub octets_in : List AddressTlvKind → List AddressRecord → ℕ
octets_in [] lines = 0
octets_in (c ∷ cs) lines = most_of c * present c lines + octets_in cs lines

both_short : (x y a b : ℕ) → a ≤ x → b ≤ y → a + b ≤ x + y
both_short x y a b le up = omega (arith, le, up)

pub all_short : (cs : List AddressTlvKind) (lines : List AddressRecord) (tlvs : List AddrTlvFields) → LaysAll cs lines tlvs → (count : ℕ) → length (flat_map (least_addr_tlv count) tlvs) ≤ octets_in cs lines
all_short [] lines tlvs h count = rw h (omega arith)
all_short (c ∷ cs) lines tlvs (first, others, whole, h, k) count = grind (arith, common_steps, take_all, flat_map-append, both_short, (all_short cs lines others k count))

-- ---- blocks

pub block_there : (lines : List AddressRecord) (blocks : List BlockFields) → AreBlocks lines blocks → (b : BlockFields) → Contains blocks b → (front : List AddressRecord) × IsBlock front b × ((line : AddressRecord) → Contains front line → Contains lines line)
block_there lines [] h b has = absurd (none_in b has)
block_there lines (d ∷ blocks) (front, rest, whole, some, h, k) b has = elim (contains_cases d blocks b has) [
  | inl same ↦ (front, subst (IsBlock front) same h, λ line at. subst (λ (l : List AddressRecord). Contains l line) (sym whole) (Contains-append_left front rest line at))
  | inr later ↦
      let (part, is, up) = block_there rest blocks k b later in
      (part, is, λ line at. subst (λ (l : List AddressRecord). Contains l line) (sym whole) (Contains-append_right front rest line (up line at)))
]

pub line_there : (lines : List AddressRecord) (blocks : List BlockFields) → AreBlocks lines blocks → (line : AddressRecord) → Contains lines line → (b : BlockFields) × (front : List AddressRecord) × Contains blocks b × IsBlock front b × Contains front line
line_there lines [] h line has = absurd (none_in line (subst (λ (l : List AddressRecord). Contains l line) h has))
line_there lines (d ∷ blocks) (front, rest, whole, some, h, k) line has =
    let there : Contains (front ++ rest) line = subst (λ (l : List AddressRecord). Contains l line) whole has in
    elim (Contains-append_cases front rest line there) [
      | inl here ↦ (d, front, at_head d blocks, h, here)
      | inr later ↦ let (b, part, among, is, at) = line_there rest blocks k line later in (b, part, in_tail d blocks b among, is, at)
    ]

-- the line of the address at a place of a block
line_at : (front : List AddressRecord) (b : BlockFields) → IsBlock front b → (place : ℕ) (address : RawAddr) (net : NetAddr) → slice_get b.addrs place ≡ Some address → IsIn address net → (line : AddressRecord) × (slice_get front place ≡ Some line) × (line.net ≡ net)
line_at front b h place address net at is =
    let mapped : option_map (λ (l : AddressRecord). raw_of l.net) (slice_get front place) ≡ Some address =
    sym (slice_get-map (λ (l : AddressRecord). raw_of l.net) front place) ∙ ap (λ (l : List RawAddr). slice_get l place) (sym h.addrs) ∙ at in
    from (slice_get front place) mapped refl
  where
    from : (o : Option AddressRecord) → option_map (λ (l : AddressRecord). raw_of l.net) o ≡ Some address → slice_get front place ≡ o → (line : AddressRecord) × (slice_get front place ≡ Some line) × (line.net ≡ net)
    from None e there = cc
    from (Some line) e there = let same : raw_of line.net ≡ address = cc in (line, there, in_same line.net net (subst (λ (a : RawAddr). IsIn a net) (sym same) is))

-- ---- what the message says

same_part : (a b x y : ℕ) (v w : Option (List ℕ)) → a ≡ b → x ≡ y → v ≡ w → ◌≡◌ {A = TlvFields} (record { kind = a; ext = x; value = v }) (record { kind = b; ext = y; value = w })
same_part a b x y v w e f g = ap (λ (k : ℕ). record { kind = k; ext = x; value = v }) e ∙ ap (λ (k : ℕ). record { kind = b; ext = k; value = v }) f ∙ ap (λ (o : Option (List ℕ)). record { kind = b; ext = y; value = o }) g

module _ (m : MessageFields) (lines : List AddressRecord) (are : AreBlocks lines m.blocks) where
  -- what is said of an address is what its line says
  pub said : (net : NetAddr) (part : TlvFields) → HasPart m net part → (line : AddressRecord) × (c : AddressTlvKind) × Contains lines line × (line.net ≡ net) × (part.kind ≡ kind_of c) × (part.ext ≡ 0) × (value_of c line ≡ Some (octets_of part.value))
  said net part h =
      let (front, is, up) = block_there lines m.blocks are h.block h.address.in_message in
      let (line, at, of) = line_at front h.block is h.place h.address.address net h.address.in_block h.address.is_in in
      let (c, run) = runs_of_all columns front h.block.tlvs is.tlvs h.tlv h.in_block in
      let (other, octets, there, value, told) = run.says h.place h.first h.last in
      let same : other ≡ line = same_some there at in
      let e : octets_of part.value ≡ octets = ap (λ (p : TlvFields). octets_of p.value) h.part_is ∙ ap octets_of told in (
        line,
        c,
        up line (at_place front h.place line at),
        of,
        ap (λ (p : TlvFields). p.kind) h.part_is ∙ run.kind,
        ap (λ (p : TlvFields). p.ext) h.part_is ∙ run.ext,
        ap (value_of c) (sym same) ∙ value ∙ ap Some (sym e),
      )

  address_at : (front : List AddressRecord) (b : BlockFields) → IsBlock front b → Contains m.blocks b → (place : ℕ) (line : AddressRecord) → slice_get front place ≡ Some line → HoldsAddressAt m b place line.net
  address_at front b is among place line at = record {
    address = raw_of line.net;
    in_message = among;
    in_block = ap (λ (l : List RawAddr). slice_get l place) is.addrs ∙ slice_get-map (λ (l : AddressRecord). raw_of l.net) front place ∙ ap (option_map (λ (l : AddressRecord). raw_of l.net)) at;
    is_in = is_in line.net;
  }

  -- and what the line says is said
  pub says : (line : AddressRecord) (c : AddressTlvKind) (octets : List ℕ) → Contains lines line → value_of c line ≡ Some octets → HasValue m line.net (kind_of c) octets
  says line c octets has value =
      let (b, front, among, is, here) = line_there lines m.blocks are line has in
      let (place, lt, at) = place_of front line here in
      let (tlv, in_block, run, low, high) = covered_in columns front b.tlvs is.tlvs c (each_column c) place line octets lt at value in
      let (other, told, there, value', is_told) = run.says place low high in
      let same : other ≡ line = same_some there at in
      let e : told ≡ octets = same_some (ap (value_of c) (sym same) ∙ value') value in (
        Some octets,
        record {
          block = b;
          place = place;
          tlv = tlv;
          address = address_at front b is among place line at;
          in_block = in_block;
          first = low;
          last = high;
          part_is = same_part (kind_of c) tlv.kind 0 tlv.ext (Some octets) (value_at tlv place) (sym run.kind) (sym run.ext) (ap Some (sym e) ∙ sym is_told);
        },
        refl,
      )

  pub stands : (line : AddressRecord) → Contains lines line → HoldsAddress m line.net
  stands line has =
      let (b, front, among, is, here) = line_there lines m.blocks are line has in
      let (place, lt, at) = place_of front line here in
      (b, place, address_at front b is among place line at)

  pub standing_line : (net : NetAddr) → HoldsAddress m net → (line : AddressRecord) × Contains lines line × (line.net ≡ net)
  standing_line net (b, place, h) =
      let (front, is, up) = block_there lines m.blocks are b h.in_message in
      let (line, at, of) = line_at front b is place h.address net h.in_block h.is_in in
      (line, up line (at_place front place line at), of)
