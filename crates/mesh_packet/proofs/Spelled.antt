-- The least form is a spelling.
use Rattle.mesh_packet.proofs.Common.{◌≡◌, ℕ, ◌+◌, ◌-◌, ◌<◌, ◌≤◌, Bool, List, [], ◌∷◌, length, Option, refl, sym, subst, arith, All, common_steps, All-head, All-tail, RawAddr, TlvFields, SpellsItems, least_short, least_tlv, least_addr_tlv, least_block, Span, BlockFields, MessageFields, PacketFields, SpellsOctet, SpellsNumber, SpellsOriginator, SpellsPair, SpellsMessageHead, SpellsBody, SpellsMessage, SpellsMessages, SpellsHeaderTlvs, Spells, width_of, IsPaddedOriginator, IsEncodableBlock, IsEncodableMessage, IsEncodable, least_octet, least_number, least_originator, least_head, message_flags, LeastPair, LeastBody, LeastMessage, has_tlvs, least_header_tlvs, packet_flags, LeastForm}
use Rattle.std.specs.Option.{is_some}
use Rattle.mesh_addr.specs.Grammar as addresses
use Rattle.mesh_tlv.proofs.Spelled.{tlv_block_spelled, addr_tlv_block_spelled, short_spelled}
use Rattle.mesh_packet.proofs.FlagSums.{tells_128, tells_64, tells_32, tells_16, tells_width, tells_8, tells_4, version_none}

-- ---- optional parts

octet_spelled : (x : Option ℕ) → SpellsOctet (is_some x) x (least_octet x)
octet_spelled x = grind (arith, common_steps)

number_spelled : (x : Option ℕ) → SpellsNumber (is_some x) x (least_number x)
number_spelled x = grind (arith, common_steps, short_spelled)

originator_spelled : (width : ℕ) (x : Option RawAddr) → width ≤ 16 → IsPaddedOriginator width x → SpellsOriginator (is_some x) width x (least_originator width x)
originator_spelled width x le h = grind (arith, common_steps)

header_tlvs_spelled : (tlvs : List TlvFields) → SpellsHeaderTlvs (has_tlvs tlvs) tlvs (least_header_tlvs tlvs)
header_tlvs_spelled [] = (refl, refl)
header_tlvs_spelled (t ∷ ts) = tlv_block_spelled (t ∷ ts)

-- ---- messages

unfoldable pub pair_spelled : (width : ℕ) (b : BlockFields) (text : List ℕ) → IsEncodableBlock width b → LeastPair b text → SpellsPair width b text
pair_spelled width b text fit h = record {
  addrs = h.addrs;
  tlvs = least_block (least_addr_tlv (length b.addrs)) b.tlvs;
  width_is = fit.width_is;
  addrs_is = subst (λ (w : ℕ). addresses.SpellsBlock w b.addrs h.addrs) fit.width_is h.addrs_is.spelled;
  tlvs_is = addr_tlv_block_spelled (length b.addrs) b.tlvs fit.tlvs;
  whole = h.whole;
}

pub items_spelled : {A : Type 0} (P : A → Type 0) (Least Says : A → List ℕ → Type 0) → ((x : A) (text : List ℕ) → P x → Least x text → Says x text) → (xs : List A) (text : List ℕ) → All P xs → SpellsItems Least xs text → SpellsItems Says xs text
items_spelled P Least Says one [] text fit h = h
items_spelled P Least Says one (x ∷ xs) text fit h = (h.0, h.1, one x h.0 (All-head P x xs fit) h.2, items_spelled P Least Says one xs h.1 (All-tail P x xs fit) h.3, h.4)

module _ (m : MessageFields) (fit : IsEncodableMessage m) where
  abbrev a : Bool
  a = is_some m.originator

  abbrev b : Bool
  b = is_some m.limit

  abbrev c : Bool
  c = is_some m.count

  abbrev d : Bool
  d = is_some m.sequence

  small : m.width - 1 < 16
  small = omega (arith, fit.wide, fit.narrow)

  pub width_told : width_of (message_flags m) ≡ m.width
  unfolding message_flags
  width_told = omega (arith, tells_width a b c d (m.width - 1) small, fit.wide)

  pub head_spelled : SpellsMessageHead (message_flags m) m.originator m.limit m.count m.sequence (least_head m)
  unfolding message_flags least_head
  head_spelled = grind (arith, common_steps, least_number, tells_128, small, width_told, originator_spelled, tells_64, octet_spelled, tells_32, tells_16, number_spelled)

  unfoldable pub body_spelled : (text : List ℕ) → LeastBody m text → SpellsBody (message_flags m) m text
  body_spelled text h = record {
    head = least_head m;
    tlvs = least_block least_tlv m.tlvs;
    blocks = h.blocks;
    width_is = sym width_told;
    head_is = head_spelled;
    tlvs_is = tlv_block_spelled m.tlvs;
    blocks_is = subst (λ (w : ℕ). SpellsItems (SpellsPair w) m.blocks h.blocks) (sym width_told) (items_spelled (IsEncodableBlock m.width) LeastPair (SpellsPair m.width) (pair_spelled m.width) m.blocks h.blocks fit.blocks h.blocks_is);
    whole = h.whole;
  }

unfoldable pub message_spelled : (m : MessageFields) (text : List ℕ) → IsEncodableMessage m → LeastMessage m text → SpellsMessage m text
message_spelled m text fit h = record {
  flags = message_flags m;
  size = least_short (4 + length h.body);
  body = h.body;
  size_is = short_spelled (4 + length h.body);
  body_is = body_spelled m fit h.body h.body_is;
  whole = h.whole;
}

-- where messages stand that are spelled from a place on
placed : (at : ℕ) (ms : List MessageFields) (text : List ℕ) → SpellsItems SpellsMessage ms text → (spans : List Span) × SpellsMessages at ms spans text
placed at [] text h = ([], h)
placed at (m ∷ ms) text h =
    let rest = placed (at + length h.0) ms h.1 h.3 in
    (record { start = at; len = length h.0 } ∷ rest.0, (h.0, h.1, h.2, refl, rest.1, h.4))

pub form_spelled : (p : PacketFields) (bytes : List ℕ) → IsEncodable p → LeastForm p bytes → (spans : List Span) × Spells p spans bytes
form_spelled p bytes fit h =
    let sequence : List ℕ = least_number p.sequence in
    let tlvs : List ℕ = least_header_tlvs p.tlvs in
    let s = is_some p.sequence in
    let t = has_tlvs p.tlvs in
    let there = placed (1 + length sequence + length tlvs) p.messages h.messages (items_spelled IsEncodableMessage LeastMessage SpellsMessage message_spelled p.messages h.messages fit.messages h.messages_is) in (
      there.0,
      record {
        flags = packet_flags p;
        sequence = sequence;
        tlvs = tlvs;
        messages = h.messages;
        version = version_none s t;
        sequence_is = subst (λ (x : Bool). SpellsNumber x p.sequence sequence) (sym (tells_8 s t)) (number_spelled p.sequence);
        tlvs_is = subst (λ (x : Bool). SpellsHeaderTlvs x p.tlvs tlvs) (sym (tells_4 s t)) (header_tlvs_spelled p.tlvs);
        messages_is = there.1;
        whole = h.whole;
      },
    )
