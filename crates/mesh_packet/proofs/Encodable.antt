-- What octets spell can be encoded.
use Rattle.mesh_packet.proofs.Common.{◌≡◌, ℕ, ◌+◌, ◌-◌, ◌<◌, ◌≤◌, Bool, true, false, List, [], ◌∷◌, ◌++◌, length, get_or, Option, refl, sym, subst, arith, All, slice_range, ltb, common_steps, take_all, get_or_append_left, get_or-append-add, get_or_past, All-nil, All-cons, ltb-true, ltb-false, has, RawAddr, SpellsItems, Span, BlockFields, MessageFields, PacketFields, SpellsOriginator, SpellsPair, SpellsBody, SpellsMessage, SpellsMessages, Spells, width_of, IsPaddedOriginator, IsEncodableBlock, IsEncodableMessage, IsEncodable}
use Rattle.mesh_addr.specs.Grammar as addresses
use Rattle.mesh_addr.proofs.Writable.{spelled_writable}
use Rattle.mesh_tlv.proofs.Fit.{all_fit}

-- each is below 256
abbrev pub AreOctets : List ℕ → Type 0
AreOctets s = (i : ℕ) → get_or s i 0 < 256

pub octets_front : (a b : List ℕ) → AreOctets (a ++ b) → AreOctets a
octets_front a b h i = at (ltb i (length a)) refl where
  at : (t : Bool) → ltb i (length a) ≡ t → get_or a i 0 < 256
  at true e = subst (λ (n : ℕ). n < 256) (get_or_append_left a b 0 i (ltb-true i (length a) e)) (h i)
  at false e = omega (arith, get_or_past a i 0 (ltb-false i (length a) e))

pub octets_back : (a b : List ℕ) → AreOctets (a ++ b) → AreOctets b
octets_back a b h i = subst (λ (n : ℕ). n < 256) (get_or-append-add a b i 0) (h (length a + i))

-- the same of a text in two parts
pub front_octets : (s a b : List ℕ) → AreOctets s → s ≡ a ++ b → AreOctets a
front_octets s a b h e = octets_front a b (subst AreOctets e h)

pub back_octets : (s a b : List ℕ) → AreOctets s → s ≡ a ++ b → AreOctets b
back_octets s a b h e = octets_back a b (subst AreOctets e h)

pub all_of : (s : List ℕ) → slice_range s 0 (length s) ≡ s
all_of s = take_all (length s - 0) s (omega arith)

items_encodable : {A : Type 0} (P : A → Type 0) (Says : A → List ℕ → Type 0) → ((x : A) (text : List ℕ) → AreOctets text → Says x text → P x) → (xs : List A) (text : List ℕ) → AreOctets text → SpellsItems Says xs text → All P xs
items_encodable P Says one [] text octets h = All-nil P
items_encodable P Says one (x ∷ xs) text octets h =
    All-cons P x xs (one x h.0 (front_octets text h.0 h.1 octets h.4) h.2) (items_encodable P Says one xs h.1 (back_octets text h.0 h.1 octets h.4) h.3)

pair_encodable : (width : ℕ) → 0 < width → width ≤ 16 → (x : BlockFields) (text : List ℕ) → AreOctets text → SpellsPair width x text → IsEncodableBlock width x
pair_encodable width wide narrow x text octets h = record {
  width_is = h.width_is;
  addrs = spelled_writable h.addrs (front_octets text h.addrs h.tlvs octets h.whole) 0 (length h.addrs) width x.addrs wide narrow (subst (λ (l : List ℕ). addresses.SpellsBlock width x.addrs l) (sym (all_of h.addrs)) h.addrs_is);
  tlvs = all_fit (length x.addrs) x.tlvs h.tlvs_is.1 h.addrs_is.some h.tlvs_is.3;
}

originator_whole : (set : Bool) (width : ℕ) (x : Option RawAddr) (text : List ℕ) → SpellsOriginator set width x text → IsPaddedOriginator width x
originator_whole set width x text h = grind (arith, common_steps)

message_encodable : (m : MessageFields) (text : List ℕ) → AreOctets text → SpellsMessage m text → IsEncodableMessage m
message_encodable m text octets h =
    let body : SpellsBody h.flags m h.body = h.body_is in
    let width : ℕ = width_of h.flags in
    let wide : 0 < width = omega arith in
    let narrow : width ≤ 16 = omega arith in
    let in_body : AreOctets h.body = back_octets (h.size ++ h.body) h.size h.body (back_octets text (m.kind ∷ (h.flags ∷ [])) (h.size ++ h.body) octets h.whole) refl in
    let behind_head : AreOctets (body.tlvs ++ body.blocks) = back_octets h.body body.head (body.tlvs ++ body.blocks) in_body body.whole in
    let in_blocks : AreOctets body.blocks = octets_back body.tlvs body.blocks behind_head in
    record {
      wide = rw body.width_is wide;
      narrow = rw body.width_is narrow;
      originator = subst (λ (w : ℕ). IsPaddedOriginator w m.originator) (sym body.width_is) (originator_whole (has h.flags 128) width m.originator body.head_is.originator_text body.head_is.originator_is);
      blocks = subst (λ (w : ℕ). All (IsEncodableBlock w) m.blocks) (sym body.width_is) (items_encodable (IsEncodableBlock width) (SpellsPair width) (pair_encodable width wide narrow) m.blocks body.blocks in_blocks body.blocks_is);
    }

messages_encodable : (at : ℕ) (ms : List MessageFields) (spans : List Span) (text : List ℕ) → AreOctets text → SpellsMessages at ms spans text → All IsEncodableMessage ms
messages_encodable at [] [] text octets h = All-nil IsEncodableMessage
messages_encodable at (m ∷ ms) (s ∷ ss) text octets h =
    All-cons IsEncodableMessage m ms (message_encodable m h.0 (front_octets text h.0 h.1 octets h.5) h.2) (messages_encodable (at + length h.0) ms ss h.1 (back_octets text h.0 h.1 octets h.5) h.4)
messages_encodable at [] (s ∷ ss) text octets h = absurd h
messages_encodable at (m ∷ ms) [] text octets h = absurd h

pub packet_encodable : (s : List ℕ) (p : PacketFields) (spans : List Span) → AreOctets s → Spells p spans s → IsEncodable p
packet_encodable s p spans octets h =
    let behind_flags : AreOctets (h.sequence ++ (h.tlvs ++ h.messages)) = back_octets s (h.flags ∷ []) (h.sequence ++ (h.tlvs ++ h.messages)) octets h.whole in
    let behind_number : AreOctets (h.tlvs ++ h.messages) = octets_back h.sequence (h.tlvs ++ h.messages) behind_flags in
    record { messages = messages_encodable (1 + length h.sequence + length h.tlvs) p.messages spans h.messages (octets_back h.tlvs h.messages behind_number) h.messages_is }
