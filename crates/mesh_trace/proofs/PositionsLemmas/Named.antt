-- HELLOs that are in the air name their sender by an address of 32 bits.
use Rattle.mesh_trace.proofs.Common.{common_steps, ◌≡◌, ℕ, zero, suc, ◌<◌, ◌^◌, inl, inr, refl, sym, ◌∙◌, ap, subst, arith, List, [], ◌∷◌, ◌++◌, Option, Some, None, Contains, Bool, true, slice_index, Addr4, Hello, Tc, has, RawAddr, Span, MessageFields, PacketFields, SpellsOctet, SpellsOriginator, SpellsMessage, Spells, AreOctets, octets_back, front_octets, back_octets, one_packet, OriginatorIs, number_of, one_hop_on, hopped, flags_of, alone, IsSoleMessage, WritesHello, WritesTc, contains_cases, contains_none as none_in}
use Rattle.mesh_texts.proofs.machine.packet.Alone.{behind_zero}
use Rattle.mesh_texts.proofs.machine.wire.Hops.{hop_spells}

-- ---- octets of parts

octets_both : (a b : List ℕ) → AreOctets a → AreOctets b → AreOctets (a ++ b)
octets_both [] b h k i = k i
octets_both (x ∷ a) b h k zero = h 0
octets_both (x ∷ a) b h k (suc i) = octets_both a b (λ j. h (suc j)) k i

-- ---- messages that name their sender

pub record NamesSender (m : MessageFields) : Type 0 where
  pub raw : RawAddr
  pub is : m.originator ≡ Some raw
  pub below : number_of raw.octets < 2 ^ 32

-- each HELLO of a packet that the octets spell does
abbrev pub IsNamed : List ℕ → Type 0
IsNamed bytes = (packet : PacketFields) (spans : List Span) → Spells packet spans bytes → (m : MessageFields) → Contains packet.messages m → m.kind ≡ 0 → NamesSender m

sole_named : (m : MessageFields) (spans : List Span) (bytes : List ℕ) → Spells (alone m) spans bytes → (m.kind ≡ 0 → NamesSender m) → IsNamed bytes
sole_named m spans bytes spelled named packet spans' spelled' m' among kind =
    let (packets, places) = one_packet bytes packet (alone m) spans' spans spelled' spelled in
    let there : Contains (m ∷ []) m' = subst (λ (p : PacketFields). Contains p.messages m') packets among in
    elim (contains_cases m [] m' there) [
      | inl same ↦ subst NamesSender same (named (subst (λ (x : MessageFields). x.kind ≡ 0) (sym same) kind))
      | inr past ↦ absurd (none_in m' past)
    ]

raw_of : (x : Option RawAddr) (y : Option Addr4) (o : Addr4) → OriginatorIs x y → y ≡ Some o → (raw : RawAddr) × (x ≡ Some raw)
raw_of None None o h e = absurd cc
raw_of (Some raw) (Some a) o h e = (raw, refl)
raw_of None (Some a) o h e = absurd h
raw_of (Some raw) None o h e = absurd h

raw_octets : (set : Bool) (width : ℕ) (x : Option RawAddr) (text : List ℕ) (raw : RawAddr) → SpellsOriginator set width x text → x ≡ Some raw → AreOctets text → AreOctets raw.octets
raw_octets set width x text raw h e octets = grind (arith, common_steps, octets_both)

number_below : (octets : List ℕ) → AreOctets octets → number_of octets < 2 ^ 32
number_below octets h = grind (arith, common_steps)

message_octets : (m : MessageFields) (bytes : List ℕ) → IsSoleMessage m bytes → (raw : RawAddr) → m.originator ≡ Some raw → AreOctets raw.octets
message_octets m bytes h raw is =
    let packet = h.spelled in
    let (text, rest, spelled, placed, none, whole) = packet.messages_is in
    let in_packet : AreOctets (packet.sequence ++ (packet.tlvs ++ packet.messages)) = back_octets bytes (packet.flags ∷ []) (packet.sequence ++ (packet.tlvs ++ packet.messages)) h.octets packet.whole in
    let in_messages : AreOctets packet.messages = octets_back packet.tlvs packet.messages (octets_back packet.sequence (packet.tlvs ++ packet.messages) in_packet) in
    let in_message : AreOctets text = front_octets packet.messages text rest in_messages whole in
    let behind_size : AreOctets spelled.body = octets_back spelled.size spelled.body (back_octets text (m.kind ∷ (spelled.flags ∷ [])) (spelled.size ++ spelled.body) in_message spelled.whole) in
    let body = spelled.body_is in
    let in_head : AreOctets body.head = front_octets spelled.body body.head (body.tlvs ++ body.blocks) behind_size body.whole in
    let head = body.head_is in
    raw_octets (has spelled.flags 128) _ m.originator head.originator_text raw head.originator_is is
    (front_octets body.head head.originator_text (head.limit_text ++ (head.count_text ++ head.sequence_text)) in_head head.whole)

pub hello_named : (hello : Hello) (bytes : List ℕ) (o : Addr4) → hello.originator ≡ Some o → WritesHello hello bytes → IsNamed bytes
hello_named hello bytes o is h =
    sole_named h.message _ bytes h.packet.spelled
    (λ kind.
    let (raw, at) = raw_of h.message.originator hello.originator o h.reads.originator is in
    record { raw = raw; is = at; below = number_below raw.octets (message_octets h.message bytes h.packet raw at) })

pub tc_named : (tc : Tc) (hop_limit : ℕ) (validity bytes : List ℕ) → WritesTc tc hop_limit validity bytes → IsNamed bytes
tc_named tc hop_limit validity bytes h =
    sole_named h.message _ bytes h.packet.spelled (λ kind. absurd (let one = h.kind in omega (arith, kind, one)))

-- ---- what is forwarded

limit_flagged : (set : Bool) (x : Option ℕ) (n : ℕ) (text : List ℕ) → SpellsOctet set x text → x ≡ Some n → set ≡ true
limit_flagged set x n text h e = grind (arith, common_steps)

pub hopped_named : (m : MessageFields) (octets : List ℕ) (limit : ℕ) → SpellsMessage m octets → m.limit ≡ Some limit → (m.kind ≡ 0 → ⊥) → IsNamed (0 ∷ hopped octets)
hopped_named m octets limit spelled is other =
    let head = spelled.body_is.head_is in
    let flagged : has spelled.flags 64 ≡ true = limit_flagged (has spelled.flags 64) m.limit limit head.limit_text head.limit_is is in
    let flags : flags_of octets ≡ spelled.flags = ap (λ (l : List ℕ). slice_index l 1) spelled.whole in
    let there : has (flags_of octets) 64 ≡ true = ap (λ (n : ℕ). has n 64) flags ∙ flagged in
    let further = hop_spells m octets spelled there in
    sole_named (one_hop_on m) _ (0 ∷ hopped octets) (behind_zero (one_hop_on m) (hopped octets) further) (λ kind. absurd (other kind))
