-- Messages of at most 1,100 lines can be encoded, and fit a datagram.
use Rattle.mesh_wire.proofs.Common.{common_steps, ◌≡◌, ℕ, ◌+◌, ◌*◌, ◌<◌, ◌≤◌, List, [], ◌∷◌, ◌++◌, length, take, map, refl, sym, ap, subst, ◌∙◌, arith, lit≤, lit<, length-append, Contains, All, Option, Bool, cond, option_map, flat_map, AllByRecursion, length-map, All-from_recursion, Contains-append_left, Contains-append_right, Addr4, RawAddr, prefixes, SpellsMids, SpellsBlock, AreAtMost, AreRaw, BlockFields, MessageFields, IsPaddedOriginator, IsEncodableBlock, IsEncodableMessage, least_octet, least_number, least_originator, LeastPair, SpellsItems, IsFit, least_short, least_addr_tlv, least_tlv, least_block, Octet, LinkIn, LinkOut, NearIn, NearOut, AddressRecord, OctetKind, whole, saying, heading_of, FitsAlone, columns, metric_columns, raw_of, has_part, IsBlock, AreBlocks, contains_head as at_head, contains_tail as in_tail, contains_map_cases}
use Rattle.mesh_addr.specs.Least.{IsLeast}
use Rattle.mesh_packet.specs.Least as packets
use Rattle.mesh_wire.proofs.Laid.{runs_of_all, all_short, octets_in}
use Rattle.mesh_wire.proofs.RunLaws.{head_long, length_short}

-- ---- what can be encoded

all_of : {X : Type 0} (P : X → Type 0) (xs : List X) → ((x : X) → Contains xs x → P x) → All P xs
all_of P xs each = All-from_recursion P xs (go xs each)
  where
    go : (ys : List _) → ((x : _) → Contains ys x → P x) → AllByRecursion P ys
    go [] each = tt
    go (y ∷ ys) each = (each y (at_head y ys), go ys (λ x has. each x (in_tail y ys x has)))

abbrev raws : List AddressRecord → List RawAddr
raws lines = map (λ (l : AddressRecord). raw_of l.net) lines

raws_raw : (lines : List AddressRecord) → AreRaw 4 (raws lines)
raws_raw [] = tt
raws_raw (l ∷ lines) = (refl, l.net.within, raws_raw lines)

raws_long : (lines : List AddressRecord) → length (raws lines) ≡ length lines
raws_long lines = length-map lines (λ (l : AddressRecord). raw_of l.net)

block_fits : (front : List AddressRecord) (b : BlockFields) → 0 < length front → IsBlock front b → IsEncodableBlock 4 b
block_fits front b some h =
    let long : length b.addrs ≡ length front = ap length h.addrs ∙ raws_long front in record {
      width_is = h.width;
      addrs = record {
        some = omega (arith, long);
        counted = omega (arith, long, h.few);
        wide = lit< tt;
        narrow = lit≤ tt;
        raw = subst (AreRaw 4) (sym h.addrs) (raws_raw front);
      };
      tlvs = all_of (IsFit (length b.addrs)) b.tlvs (λ tlv has. subst (λ (n : ℕ). IsFit n tlv) (sym long) (runs_of_all columns front b.tlvs h.tlvs tlv has).1.fit);
    }

blocks_fit : (lines : List AddressRecord) (blocks : List BlockFields) → AreBlocks lines blocks → AllByRecursion (IsEncodableBlock 4) blocks
blocks_fit lines [] h = tt
blocks_fit lines (b ∷ blocks) (front, rest, whole, some, h, k) = (block_fits front b some h, blocks_fit rest blocks k)

originator_fits : (o : Option Addr4) → IsPaddedOriginator 4 (option_map whole o)
originator_fits o = grind (arith, common_steps)

pub message_fits : (m : MessageFields) (lines : List AddressRecord) (o : Option Addr4) → m.width ≡ 4 → m.originator ≡ option_map whole o → AreBlocks lines m.blocks → IsEncodableMessage m
message_fits m lines o width origin are = grind (arith, common_steps, originator_fits, All-from_recursion, blocks_fit)

-- ---- how long an address block is

-- four octets of each
mids : List AddressRecord → List ℕ
mids [] = []
mids (l ∷ lines) = take 4 (raw_of l.net).octets ++ mids lines

mids_spelled : (lines : List AddressRecord) → SpellsMids [] [] 4 (raws lines) (mids lines)
unfolding mids
mids_spelled [] = refl
mids_spelled (l ∷ lines) = (take 4 (raw_of l.net).octets, mids lines, refl, refl, mids_spelled lines, refl)

mids_long : (lines : List AddressRecord) → length (mids lines) ≡ 4 * length lines
unfolding mids
mids_long [] = refl
mids_long (l ∷ lines) = omega (arith, mids_long lines)

prefixes_most : (lines : List AddressRecord) → AreAtMost 32 (prefixes (raws lines))
prefixes_most [] = tt
prefixes_most (l ∷ lines) = (l.net.within, prefixes_most lines)

-- a spelling without a head or a tail, with a prefix length for each address
plain : List AddressRecord → List ℕ
plain lines = length (raws lines) ∷ (8 ∷ (mids lines ++ prefixes (raws lines)))

plain_spelled : (lines : List AddressRecord) → 0 < length lines → SpellsBlock 4 (raws lines) (plain lines)
unfolding plain
plain_spelled lines some = record {
  flags = 8;
  head = [];
  tail = [];
  head_text = [];
  tail_text = [];
  mids_text = mids lines;
  prefixes_text = prefixes (raws lines);
  some = omega (arith, raws_long lines);
  fits = lit≤ tt;
  head_is = (refl, refl);
  tail_is = (refl, refl);
  mids_is = mids_spelled lines;
  prefixes_is = (prefixes_most lines, refl);
  whole = refl;
}

addrs_short : (lines : List AddressRecord) (text : List ℕ) → 0 < length lines → IsLeast 4 (raws lines) text → length text ≤ 2 + 5 * length lines
unfolding plain
addrs_short lines text some h =
    omega (arith, h.least (plain lines) (plain_spelled lines some), length-append (mids lines) (prefixes (raws lines)), mids_long lines, raws_long lines, length-map (raws lines) (λ (a : RawAddr). a.prefix))

-- ---- how long blocks are

-- the parts of a line take at most 49 octets
abbrev pub HasFewParts : AddressRecord → Type 0
HasFewParts line = octets_in columns (line ∷ []) ≤ 49

bit_most : (b : Bool) → cond b 1 0 ≤ 1
bit_most b = grind (arith, common_steps)

-- a value of one octet takes five
pub narrow_most : (ks : List OctetKind) (l : AddressRecord) → octets_in (map Octet ks) (l ∷ []) ≤ 5 * length ks
narrow_most [] l = omega arith
narrow_most (k ∷ ks) l = omega (arith, bit_most (has_part (Octet k) l), narrow_most ks l)

-- a metric takes six
pub metric_most : (l : AddressRecord) → octets_in metric_columns (l ∷ []) ≤ 24
metric_most l = omega (arith, bit_most (has_part LinkIn l), bit_most (has_part LinkOut l), bit_most (has_part NearIn l), bit_most (has_part NearOut l))

pub lines_few : {Row : Type 0} (line_of : Row → AddressRecord) (rows : List Row) → ((row : Row) → HasFewParts (line_of row)) → (line : AddressRecord) → Contains (map line_of rows) line → HasFewParts line
lines_few line_of rows few line on = let (row, there, is) = contains_map_cases line_of rows line on in subst HasFewParts is (few row)

parts_few : (lines : List AddressRecord) → ((line : AddressRecord) → Contains lines line → HasFewParts line) → octets_in columns lines ≤ 49 * length lines
parts_few [] few = omega arith
parts_few (l ∷ lines) few = omega (arith, few l (at_head l lines), parts_few lines (λ line has. few line (in_tail l lines line has)))

pair_short : (front : List AddressRecord) (b : BlockFields) (text : List ℕ) → 0 < length front → IsBlock front b → octets_in columns front ≤ 49 * length front → LeastPair b text → length text ≤ 58 * length front
pair_short front b text some h few pair =
    let least : IsLeast 4 (raws front) pair.addrs = subst (λ (a : List RawAddr). IsLeast 4 a pair.addrs) h.addrs (subst (λ (w : ℕ). IsLeast w b.addrs pair.addrs) h.width pair.addrs_is) in
    let one = least_addr_tlv (length b.addrs) in
    omega (
      arith,
      few,
      addrs_short front pair.addrs some least,
      all_short columns front b.tlvs h.tlvs (length b.addrs),
      ap length pair.whole,
      length-append pair.addrs (least_block one b.tlvs),
      length-append (least_short (length (flat_map one b.tlvs))) (flat_map one b.tlvs),
    )

blocks_short : (lines : List AddressRecord) (blocks : List BlockFields) (text : List ℕ) → AreBlocks lines blocks → ((line : AddressRecord) → Contains lines line → HasFewParts line) → SpellsItems LeastPair blocks text → length text ≤ 58 * length lines
blocks_short lines [] text h few spelled = omega (arith, ap length spelled)
blocks_short lines (b ∷ blocks) text (front, rest, whole, some, h, k) few (first, others, is, are, joined) =
    let up : (line : AddressRecord) → Contains front line → HasFewParts line = λ line has. few line (subst (λ (l : List AddressRecord). Contains l line) (sym whole) (Contains-append_left front rest line has)) in
    let on : (line : AddressRecord) → Contains rest line → HasFewParts line = λ line has. few line (subst (λ (l : List AddressRecord). Contains l line) (sym whole) (Contains-append_right front rest line has)) in
    omega (arith, pair_short front b first some h (parts_few front up) is, blocks_short rest blocks others k on are, ap length joined, length-append first others, ap length whole, length-append front rest)

-- ---- how long message TLVs are

saying_short : (kind ext : ℕ) (octets : List ℕ) → length octets ≤ 17 → length (least_tlv (saying kind ext octets)) ≤ 6 + length octets
saying_short kind ext octets le = grind (arith, common_steps, head_long, length_short)

heading_short : (validity values : List ℕ) (b : Bool) (kind ext : ℕ) → length validity ≤ 17 → length values ≤ 3 → length (flat_map least_tlv (heading_of validity values b kind ext)) ≤ 39
heading_short validity values b kind ext short le = grind (arith, common_steps, saying_short)

-- ---- how long the packet is

octet_short : (o : Option ℕ) → length (least_octet o) ≤ 1
octet_short o = grind (arith, common_steps)

number_short : (o : Option ℕ) → length (least_number o) ≤ 2
number_short o = grind (arith, common_steps)

originator_short : (w : ℕ) (o : Option RawAddr) → length (least_originator w o) ≤ w
originator_short w o = grind (arith, common_steps)

head_short : (m : MessageFields) → m.width ≡ 4 → length (packets.least_head m) ≤ 8
unfolding packets.least_head
head_short m width = grind (arith, common_steps, originator_short, octet_short, number_short, least_number)

pub fits_alone : (m : MessageFields) (lines : List AddressRecord) (validity values : List ℕ) (b : Bool) (kind ext : ℕ) → m.width ≡ 4 → length validity ≤ 17 → length values ≤ 3 → m.tlvs ≡ heading_of validity values b kind ext → AreBlocks lines m.blocks →
    length lines ≤ 1100 → ((line : AddressRecord) → Contains lines line → HasFewParts line) → FitsAlone m
fits_alone m lines validity values b kind ext width few_octets short tlvs are most few bytes form = grind (arith, common_steps, heading_short, head_short, blocks_short)
