-- A HELLO spelled otherwise than the writers spell it may be sent; messages with what a reading ignores may not.
use Rattle.mesh_wire.proofs.Common.{◌≡◌, ℕ, zero, suc, ◌+◌, ◌-◌, ◌<◌, ◌≤◌, ◌⊎◌, inl, inr, Bool, true, false, List, [], ◌∷◌, ◌++◌, length, drop, get_or, None, refl, sym, ap, subst, ◌∙◌, arith, lit≤, lit<, Contains, slice_index, replicate, cond, ltb, length-append, append_assoc, append-nil, ltb-true, false≢true, get_or_append_left, get_or-append-add, get_or-replicate, get_or_past, NetAddr, Hello, has, SpellsBlock, SpellsHead, SpellsTail, Span, MessageFields, Spells, SpellsMessage, SpellsPair, SpellsNumber, SpellsHeaderTlvs, TlvFields, SpellsTlvBlock, SpellsAddrTlvBlock, own, own_net, local, own_block, near, near_net, lone, lone_hello, BreaksHello, Undefined, OctetKind, Local, Link, Mpr, LOCAL_IF, LINK_STATUS, LINK_METRIC, MPR, MetricKind, Link_in, Link_out, Near_in, Near_out, flag_of, statuses, type_of, is_value, IsOctetOf, Keeps, HasPart, HasValue, HoldsAddressAt, HasBriefBlocks, IsSoleMessage, HasFlag, IsReadOfHello, IsReadOfOther, IsReadOfHelloAddress, WritesHello, alone, contains_at, heads_equal, tails_equal}
use Rattle.mesh_wire.specs.Spellings.{wordy_tlvs, wordy_local, short_block, long_block, message_with, wordy, too_wordy, IsForNone, IsSentForNone, unknown_tlv, beside, two, with_near, status, own_two, status_of_sender}
use Rattle.mesh_wire.proofs.Examples.{says, part_only, lone_is, lone_keeps}
use Rattle.mesh_wire.proofs.Behind.{behind_head, behind_tlvs}
use Rattle.mesh_wire.proofs.HelloWritten.{read_kind}
use Rattle.mesh_wire.proofs.OctetKinds.{not_metric}
use Rattle.mesh_wire.proofs.RowLines.{alone_again}

-- ---- how it is spelled

tlvs_spelled : SpellsTlvBlock lone.tlvs (0 ∷ 14 ∷ wordy_tlvs)
tlvs_spelled = (
  0 ∷ 14 ∷ [],
  wordy_tlvs,
  (0, 14, refl, refl),
  (
    1 ∷ 152 ∷ 0 ∷ 0 ∷ 1 ∷ 100 ∷ [],
    _,
    record { flags = 152; ext = 0 ∷ []; index = []; value = 0 ∷ 1 ∷ 100 ∷ []; not_barred = refl; ext_is = refl; index_is = (refl, refl, refl); value_is = (0 ∷ 1 ∷ [], (0, 1, refl, refl), refl); multi_is = refl; equal_parts = tt; whole = refl },
    (
      0 ∷ 19 ∷ 1 ∷ 88 ∷ [],
      _,
      record { flags = 19; ext = []; index = []; value = 1 ∷ 88 ∷ []; not_barred = refl; ext_is = (refl, refl); index_is = (refl, refl, refl); value_is = (1 ∷ [], refl, refl); multi_is = refl; equal_parts = tt; whole = refl },
      (
        7 ∷ 16 ∷ 1 ∷ 119 ∷ [],
        [],
        record { flags = 16; ext = []; index = []; value = 1 ∷ 119 ∷ []; not_barred = refl; ext_is = (refl, refl); index_is = (refl, refl, refl); value_is = (1 ∷ [], refl, refl); multi_is = refl; equal_parts = tt; whole = refl },
        refl,
        refl,
      ),
      refl,
    ),
    refl,
  ),
  refl,
)

local_spelled : SpellsAddrTlvBlock 1 own_block.tlvs wordy_local
local_spelled = (
  0 ∷ 6 ∷ [],
  2 ∷ 51 ∷ 0 ∷ 0 ∷ 1 ∷ 0 ∷ [],
  (0, 6, refl, refl),
  (
    2 ∷ 51 ∷ 0 ∷ 0 ∷ 1 ∷ 0 ∷ [],
    [],
    record { flags = 51; ext = []; index = 0 ∷ 0 ∷ []; value = 1 ∷ 0 ∷ []; not_barred = refl; ext_is = (refl, refl); index_is = (lit≤ tt, lit< tt, refl); value_is = (1 ∷ [], refl, refl); multi_is = refl; equal_parts = tt; whole = refl },
    refl,
    refl,
  ),
  refl,
)

short_spelled : SpellsBlock 4 (own ∷ []) short_block
short_spelled = record {
  flags = 7;
  head = [];
  tail = [];
  head_text = [];
  tail_text = [];
  mids_text = 10 ∷ 0 ∷ 0 ∷ 1 ∷ [];
  prefixes_text = [];
  some = lit< tt;
  fits = lit≤ tt;
  head_is = (refl, refl);
  tail_is = (refl, refl);
  mids_is = (10 ∷ 0 ∷ 0 ∷ 1 ∷ [], [], refl, refl, refl, refl);
  prefixes_is = (refl, refl);
  whole = refl;
}

long_spelled : SpellsBlock 4 (own ∷ []) long_block
long_spelled = record {
  flags = 128;
  head = 10 ∷ [];
  tail = [];
  head_text = 1 ∷ 10 ∷ [];
  tail_text = [];
  mids_text = 0 ∷ 0 ∷ 1 ∷ [];
  prefixes_text = [];
  some = lit< tt;
  fits = lit≤ tt;
  head_is = refl;
  tail_is = (refl, refl);
  mids_is = (0 ∷ 0 ∷ 1 ∷ [], [], refl, refl, refl, refl);
  prefixes_is = (refl, refl);
  whole = refl;
}

-- ---- an address that ends in no zero is spelled in no fewer octets than six

head_most : (flagged : Bool) (head text : List ℕ) → SpellsHead flagged head text → length head ≤ length text
head_most true head text is = let e = ap length is in omega (arith, e)
head_most false head text (none, e) = let h = ap length none in omega (arith, h)

tail_most : (full zeros : Bool) (tail text : List ℕ) → SpellsTail full zeros tail text → (length tail ≤ length text) ⊎ (tail ≡ replicate (length tail) 0)
tail_most true false tail text is = let e = ap length is in inl (omega (arith, e))
tail_most false true tail text (are, e) = inr are
tail_most false false tail text (none, e) = let h = ap length none in inl (omega (arith, h))
tail_most true true tail text is = absurd is

-- the last of four octets is no zero of a tail of zeros
no_zeros : (front tail : List ℕ) → length front + length tail ≡ 4 → own.octets ≡ (front ++ tail) ++ replicate (16 - length (front ++ tail)) 0 → tail ≡ replicate (length tail) 0 → length tail ≡ 0
no_zeros front [] size e zeros = refl
no_zeros front (x ∷ xs) size e zeros =
    let tail : List ℕ = x ∷ xs in
    let count = length-append front tail in
    let place : length front + length xs ≡ 3 = omega (arith, size) in
    let whole : get_or (front ++ tail) 3 0 ≡ 1 = sym (get_or_append_left (front ++ tail) (replicate (16 - length (front ++ tail)) 0) 0 3 (omega (arith, count, size))) ∙ sym (ap (λ (l : List ℕ). get_or l 3 0) e) in
    let behind : get_or (front ++ tail) 3 0 ≡ get_or tail (length xs) 0 = ap (λ (n : ℕ). get_or (front ++ tail) n 0) (sym place) ∙ get_or-append-add front tail (length xs) 0 in
    let zero_there : get_or tail (length xs) 0 ≡ 0 = ap (λ (l : List ℕ). get_or l (length xs) 0) zeros ∙ get_or-replicate (length tail) (length xs) 0 0 (omega arith) in
    absurd (omega (arith, whole, behind, zero_there))

six : (other : List ℕ) → SpellsBlock 4 (own ∷ []) other → 6 ≤ length other
six other is =
    let (mid, rest, size, octets, none, parts) = is.mids_is in
    let count = ap length is.whole in
    let a = length-append is.head_text (is.tail_text ++ (is.mids_text ++ is.prefixes_text)) in
    let b = length-append is.tail_text (is.mids_text ++ is.prefixes_text) in
    let d = length-append is.mids_text is.prefixes_text in
    let e = ap length parts in
    let f = length-append mid rest in
    let h = head_most (has is.flags 128) is.head is.head_text is.head_is in
    let fits = is.fits in
    elim (tail_most (has is.flags 64) (has is.flags 32) is.tail is.tail_text is.tail_is) [
      | inl t ↦ omega (arith, count, a, b, d, e, f, h, fits, size, t)
      | inr zeros ↦
          let front = length-append is.head mid in
          let flat : (is.head ++ mid) ++ is.tail ≡ is.head ++ (mid ++ is.tail) = append_assoc is.head mid is.tail in
          let t = no_zeros (is.head ++ mid) is.tail (omega (arith, front, size, fits)) (subst (λ (l : List ℕ). own.octets ≡ l ++ replicate (16 - length l) 0) (sym flat) octets) zeros in
          omega (arith, count, a, b, d, e, f, h, fits, size, t)
    ]

-- ---- the octets may be sent

module _ (size : ℕ) (block : List ℕ) (is : SpellsBlock 4 (own ∷ []) block) (count : size ≡ 32 + length block) where
  abbrev text : List ℕ
  text = block ++ wordy_local

  pair_spelled : SpellsPair 4 own_block text
  pair_spelled = record { addrs = block; tlvs = wordy_local; width_is = refl; addrs_is = is; tlvs_is = local_spelled; whole = refl }

  message_spelled : SpellsMessage lone (message_with size block)
  message_spelled = record {
    flags = 131;
    size = 0 ∷ size ∷ [];
    body = 10 ∷ 0 ∷ 0 ∷ 1 ∷ 0 ∷ 14 ∷ (wordy_tlvs ++ text);
    size_is = (0, size, (let long = length-append block wordy_local in omega (arith, count, long)), refl);
    body_is = record {
      head = 10 ∷ 0 ∷ 0 ∷ 1 ∷ [];
      tlvs = 0 ∷ 14 ∷ wordy_tlvs;
      blocks = text;
      width_is = refl;
      head_is = record { originator_text = 10 ∷ 0 ∷ 0 ∷ 1 ∷ []; limit_text = []; count_text = []; sequence_text = []; originator_is = (refl, refl, refl); limit_is = refl; count_is = refl; sequence_is = refl; whole = refl };
      tlvs_is = tlvs_spelled;
      blocks_is = (text, [], pair_spelled, refl, sym (append-nil text));
      whole = refl;
    };
    whole = refl;
  }

  packet_spelled : Spells (alone lone) (record { start = 3; len = length (message_with size block) } ∷ []) (7 ∷ 0 ∷ 0 ∷ message_with size block)
  packet_spelled = record {
    flags = 7;
    sequence = [];
    tlvs = 0 ∷ 0 ∷ [];
    messages = message_with size block;
    version = lit< tt;
    sequence_is = refl;
    tlvs_is = (0 ∷ 0 ∷ [], [], (0, 0, refl, refl), refl, refl);
    messages_is = (message_with size block, [], message_spelled, refl, refl, sym (append-nil (message_with size block)));
    whole = refl;
  }

brief : HasBriefBlocks (message_spelled 38 short_block short_spelled refl)
unfolding message_spelled pair_spelled
brief = (short_block ++ wordy_local, [], record { pair = pair_spelled 38 short_block short_spelled refl; fewest = six }, refl, refl)

-- numbers that are tried to be below 256 are
abbrev all_small : List ℕ → Bool
all_small [] = true
all_small (x ∷ xs) = cond (ltb x 256) (all_small xs) false

both : (a b : Bool) → cond a b false ≡ true → (a ≡ true) × (b ≡ true)
both true b e = (refl, e)
both false b e = absurd (false≢true e)

small : (bytes : List ℕ) → all_small bytes ≡ true → (i : ℕ) → slice_index bytes i < 256
small [] e i = omega (arith, get_or_past {X = ℕ} [] i 0 (omega arith))
small (x ∷ xs) e zero = ltb-true x 256 (both (ltb x 256) (all_small xs) e).0
small (x ∷ xs) e (suc i) = small xs (both (ltb x 256) (all_small xs) e).1 i

sole : IsSoleMessage lone wordy
unfolding packet_spelled
sole = record { octets = small wordy refl; span = record { start = 3; len = 38 }; spelled = packet_spelled 38 short_block short_spelled refl; brief = brief }

tlv_read : (tlv : TlvFields) → Contains lone.tlvs tlv → IsReadOfHello tlv
tlv_read tlv (zero, lt, is) = subst IsReadOfHello is (record { kind = inl refl; ext = refl })
tlv_read tlv (suc zero, lt, is) = subst IsReadOfHello is (record { kind = inr (inl refl); ext = refl })
tlv_read tlv (suc (suc zero), lt, is) = subst IsReadOfHello is (record { kind = inr (inr refl); ext = refl })
tlv_read tlv (suc (suc (suc k)), lt, is) = absurd (omega arith)

pub wordy_writes : WritesHello lone_hello wordy
wordy_writes = record {
  message = lone;
  packet = sole;
  kind = refl;
  limit = refl;
  count = refl;
  sequence = refl;
  reads = lone_is;
  keeps = lone_keeps;
  tlvs = tlv_read;
  parts = λ net part has. subst (IsReadOfHelloAddress lone net) (sym (part_only net part has)) (record { kind = inl refl; ext = refl });
}

-- ---- messages that are sent for none

-- what is told of the message of a HELLO is told of the one that is spelled
same_message : (m : MessageFields) (hello : Hello) (bytes : List ℕ) (spans : List Span) → Spells (alone m) spans bytes → (w : WritesHello hello bytes) → m ≡ w.message
same_message m hello bytes spans spelled w = heads_equal m w.message [] [] (alone_again w.message bytes w.packet (alone m) spans spelled)

-- the blocks of the message that is too long are these octets
blocks_there : (text : List ℕ) (is : SpellsMessage lone text) → text ≡ message_with 39 long_block → is.body_is.blocks ≡ long_block ++ wordy_local
blocks_there text is same =
    behind_tlvs lone.tlvs is.body_is.tlvs is.body_is.blocks (wordy_tlvs ++ (long_block ++ wordy_local)) 0 14 is.body_is.tlvs_is (sym (behind_head lone text is) ∙ ap (drop 8) same)

-- an address block with a head has seven octets or more
seven : (text rest : List ℕ) → SpellsBlock 4 (own ∷ []) text → text ++ rest ≡ long_block ++ wordy_local → 7 ≤ length text
seven text rest is same =
    let whole = sym (ap (λ (l : List ℕ). l ++ rest) is.whole) ∙ same in
    let flags : is.flags ≡ 128 = heads_equal _ _ _ _ (tails_equal _ _ _ _ whole) in
    let head : SpellsHead true is.head is.head_text = subst (λ (n : ℕ). SpellsHead (has n 128) is.head is.head_text) flags is.head_is in
    let tail : SpellsTail false false is.tail is.tail_text = subst (λ (n : ℕ). SpellsTail (has n 64) (has n 32) is.tail is.tail_text) flags is.tail_is in
    let (mid, more, size, octets, none, parts) = is.mids_is in
    let count = ap length is.whole in
    let a = length-append is.head_text (is.tail_text ++ (is.mids_text ++ is.prefixes_text)) in
    let b = length-append is.tail_text (is.mids_text ++ is.prefixes_text) in
    let d = length-append is.mids_text is.prefixes_text in
    let e = ap length parts in
    let f = length-append mid more in
    let h = ap length head in
    let t = ap length tail.0 in
    let fits = is.fits in
    omega (arith, count, a, b, d, e, f, h, t, fits, size)

no_brief : (octets : List ℕ) (is : SpellsMessage lone octets) → octets ≡ message_with 39 long_block → HasBriefBlocks is → ⊥
no_brief octets is same (first, rest, briefly, none, parts) =
    let p = briefly.pair in
    let here : SpellsBlock 4 (own ∷ []) p.addrs = subst (λ (w : ℕ). SpellsBlock w (own ∷ []) p.addrs) (sym is.body_is.width_is) p.addrs_is in
    let whole = sym (append_assoc p.addrs p.tlvs rest) ∙ ap (λ (l : List ℕ). l ++ rest) (sym p.whole) ∙ sym parts ∙ blocks_there octets is same in
    let long : 7 ≤ length p.addrs = seven p.addrs (p.tlvs ++ rest) here whole in
    let most : length p.addrs ≤ 6 = briefly.fewest short_block (subst (λ (w : ℕ). SpellsBlock w (own ∷ []) short_block) is.body_is.width_is short_spelled) in
    omega (arith, long, most)

-- the message of the packet is these octets
message_there : (m : MessageFields) (span : Span) (is : Spells (alone m) (span ∷ []) too_wordy) → is.messages_is.0 ≡ message_with 39 long_block
message_there m span is =
    let flags : is.flags ≡ 7 = sym (heads_equal _ _ _ _ is.whole) in
    let number : is.sequence ≡ [] = subst (λ (n : ℕ). SpellsNumber (has n 8) None is.sequence) flags is.sequence_is in
    let tlvs : SpellsTlvBlock [] is.tlvs = subst (λ (n : ℕ). SpellsHeaderTlvs (has n 4) [] is.tlvs) flags is.tlvs_is in
    let (text, rest, spelled, stands, none, parts) = is.messages_is in
    let behind = sym (tails_equal _ _ _ _ is.whole ∙ ap (λ (l : List ℕ). l ++ (is.tlvs ++ is.messages)) number) in
    sym (parts ∙ ap (λ (l : List ℕ). text ++ l) none ∙ append-nil text) ∙ behind_tlvs [] is.tlvs is.messages (message_with 39 long_block) 0 0 tlvs behind

pub too_wordy_never : IsForNone too_wordy
too_wordy_never hello w =
    let is = w.packet.spelled in
    let same : lone ≡ w.message = same_message lone hello too_wordy _ (packet_spelled 39 long_block long_spelled refl) w in
    let never = subst (λ (m : MessageFields). (text : List ℕ) (is : SpellsMessage m text) → text ≡ message_with 39 long_block → HasBriefBlocks is → ⊥) same no_brief in
    never is.messages_is.0 is.messages_is.2 (message_there w.message w.packet.span is) w.packet.brief

pub unknown_tlv_never : IsSentForNone unknown_tlv
unknown_tlv_never hello bytes spans spelled w =
    let e = same_message unknown_tlv hello bytes spans spelled w in
    let odd : TlvFields = record { kind = 200; ext = 0; value = None } in
    let read : IsReadOfHello odd = w.tlvs odd (subst (λ (m : MessageFields). Contains m.tlvs odd) e (0, lit< tt, refl)) in
    elim read.kind [
      | inl h ↦ absurd (omega (arith, h))
      | inr (inl h) ↦ absurd (omega (arith, h))
      | inr (inr h) ↦ absurd (omega (arith, h))
    ]

-- what is said of an address is read
part_read : (m : MessageFields) (hello : Hello) (bytes : List ℕ) (spans : List Span) → Spells (alone m) spans bytes → WritesHello hello bytes →
    (net : NetAddr) (part : TlvFields) → HasPart m net part → IsReadOfHelloAddress m net part
part_read m hello bytes spans spelled w = subst (λ (n : MessageFields). (net : NetAddr) (part : TlvFields) → HasPart n net part → IsReadOfHelloAddress n net part) (sym (same_message m hello bytes spans spelled w)) w.parts

-- ---- what is said of the second address

beside_at : (kind : ℕ) (octets : List ℕ) → HoldsAddressAt (with_near kind octets) (two kind octets) 1 near_net
beside_at kind octets = record { address = near; in_message = (0, lit< tt, refl); in_block = refl; is_in = record { prefix = refl; number = refl } }

beside_said : (kind : ℕ) (octets : List ℕ) → HasValue (with_near kind octets) near_net kind octets
beside_said kind octets = says (with_near kind octets) (two kind octets) 1 near_net (beside kind octets) kind octets (beside_at kind octets) (1, lit< tt, refl) (lit≤ tt) (lit≤ tt) refl

-- a reading that looks at it is of one octet, or of a metric
beside_read : (kind : ℕ) (octets : List ℕ) (hello : Hello) (bytes : List ℕ) (spans : List Span) → Spells (alone (with_near kind octets)) spans bytes → WritesHello hello bytes →
    ((k : OctetKind) × (kind ≡ type_of k) × (kind ≡ MPR → IsOctetOf Mpr octets)) ⊎ ((kind ≡ LINK_METRIC) × ((metric : MetricKind) × HasFlag metric octets))
beside_read kind octets hello bytes spans spelled w =
    let (value, part, same) = beside_said kind octets in
    elim (part_read (with_near kind octets) hello bytes spans spelled w near_net _ part).kind [
      | inl h ↦ inl (Local, h, λ f. absurd (omega (arith, h, f)))
      | inr h ↦ read_kind kind octets (subst (IsReadOfOther kind) (sym same) h.1)
    ]

unknown : (k : OctetKind) → 200 ≡ type_of k → ⊥
unknown Local e = absurd (omega arith)
unknown k e = absurd (omega arith)

pub unknown_part_never : IsSentForNone (with_near 200 [])
unknown_part_never hello bytes spans spelled w = elim (beside_read 200 [] hello bytes spans spelled w) [
  | inl (k, e, is) ↦ unknown k e
  | inr h ↦ absurd (omega (arith, h.0))
]

pub relay_never : IsSentForNone (with_near 8 (4 ∷ []))
relay_never hello bytes spans spelled w = elim (beside_read 8 (4 ∷ []) hello bytes spans spelled w) [
  | inl (k, e, is) ↦ (let (octet, same, valid) = is refl in absurd (false≢true (ap (is_value Mpr) (heads_equal 4 octet [] [] same) ∙ valid)))
  | inr h ↦ absurd (omega (arith, h.0))
]

first_octet : (a b c d : ℕ) → a ∷ b ∷ [] ≡ c ∷ d ∷ [] → a ≡ c
first_octet a b c d e = cc

unflagged : (kind : MetricKind) → has 0 (flag_of kind) ≡ true → ⊥
unflagged Link_in e = false≢true e
unflagged Link_out e = false≢true e
unflagged Near_in e = false≢true e
unflagged Near_out e = false≢true e

pub metric_never : IsSentForNone (with_near 7 (0 ∷ 100 ∷ []))
metric_never hello bytes spans spelled w = elim (beside_read 7 (0 ∷ 100 ∷ []) hello bytes spans spelled w) [
  | inl (k, e, is) ↦ not_metric k (sym e)
  | inr (same, (metric, (high, low, is, flagged))) ↦ unflagged metric (subst (λ (n : ℕ). has n (flag_of metric) ≡ true) (sym (first_octet 0 100 high low is)) flagged)
]

-- a LINK_STATUS of no meaning breaks a rule
pub status_never : IsSentForNone (with_near 3 (7 ∷ []))
status_never hello bytes spans spelled w =
    let m = with_near 3 (7 ∷ []) in
    let keeps : Keeps (BreaksHello m) = subst (λ (n : MessageFields). Keeps (BreaksHello n)) (sym (same_message m hello bytes spans spelled w)) w.keeps in
    keeps _ _ (Undefined near_net Link (contains_at statuses 1 Link refl) (7 ∷ [], beside_said 3 (7 ∷ []), λ (octet, same, valid). false≢true (ap (is_value Link) (heads_equal 7 octet [] [] same) ∙ valid)))

-- ---- what is said of the sender's own address

both_said : HoldsAddressAt status_of_sender own_two 0 own_net
both_said = record { address = own; in_message = (0, lit< tt, refl); in_block = refl; is_in = record { prefix = refl; number = refl } }

pub sender_never : IsSentForNone status_of_sender
sender_never hello bytes spans spelled w =
    let own_status = says status_of_sender own_two 0 own_net status LINK_STATUS (1 ∷ []) both_said (1, lit< tt, refl) (lit≤ tt) (lit≤ tt) refl in
    let own_local = says status_of_sender own_two 0 own_net local LOCAL_IF (0 ∷ []) both_said (0, lit< tt, refl) (lit≤ tt) (lit≤ tt) refl in
    elim (part_read status_of_sender hello bytes spans spelled w own_net _ own_status.1).kind [
      | inl h ↦ absurd (omega (arith, h))
      | inr h ↦ h.0 (0 ∷ [], own_local)
    ]
