-- A packet that was read, and the one message that octets may be sent for.
use Rattle.mesh_trace.proofs.Common.{common_steps, ◌≡◌, ℕ, ◌+◌, ◌<◌, Bool, List, [], ◌∷◌, length, ap, subst, ◌∙◌, arith, append_assoc, slice_range, slice_index, slice_index_or, IsTrue, ◌↔◌, text_is, stands_next, behind, heads_equal, Span, MessageFields, PacketFields, SpellsMessage, Spells, one_packet, HasBriefBlocks, alone, IsSoleMessage}
use Rattle.mesh_packet.proofs.Packets.{first_stands}

-- the message's octets are those at its span
pub stands_alone : (m : MessageFields) (s : Span) (bytes : List ℕ) (is : Spells (alone m) (s ∷ []) bytes) → slice_range bytes s.start (s.start + s.len) ≡ is.messages_is.0
stands_alone m s bytes is = grind (arith, common_steps, length, first_stands, append_assoc, behind, stands_next, text_is)

-- one span of one message
one_span : (spans : List Span) (none : Span) → length spans ≡ 1 → spans ≡ slice_index_or spans 0 none ∷ []
one_span spans none e = grind (arith, common_steps)

pub alone_spans : (packet : PacketFields) (m : MessageFields) (spans : List Span) (s none : Span) (bytes : List ℕ) → packet ≡ alone m → length packet.messages ≡ length spans → s ≡ slice_index_or spans 0 none →
    Spells packet spans bytes → Spells (alone m) (s ∷ []) bytes
alone_spans packet m spans s none bytes e count at is = grind (arith, common_steps, length, one_span)

module _ (Says : MessageFields → Type 0) (bytes : List ℕ) where
  -- the octets are a packet of one message alone of which that is true
  abbrev pub IsSole : Type 0
  IsSole = (m : MessageFields) × IsSoleMessage m bytes × Says m

  pub sole_is : (answer : Bool) (m : MessageFields) (s : Span) → Spells (alone m) (s ∷ []) bytes → ((i : ℕ) → slice_index bytes i < 256) →
      ((text : List ℕ) (spelled : SpellsMessage m text) → slice_range bytes s.start (s.start + s.len) ≡ text → IsTrue answer ↔ (Says m × HasBriefBlocks spelled)) → IsTrue answer ↔ IsSole
  sole_is answer m s is octets tells = (
    λ y.
        let here = (tells is.messages_is.0 is.messages_is.2 (stands_alone m s bytes is)).0 y in
        (m, record { octets = octets; span = s; spelled = is; brief = here.1 }, here.0),
    λ sole.
        let (n, only, says) = sole in
        let same = one_packet bytes (alone m) (alone n) (s ∷ []) (only.span ∷ []) is only.spelled in
        let messages : m ≡ n = heads_equal m n [] [] (ap (λ (p : PacketFields). p.messages) same.0) in
        let spans : s ≡ only.span = heads_equal s only.span [] [] same.1 in
        let told = subst (λ (o : MessageFields). (text : List ℕ) (spelled : SpellsMessage o text) → slice_range bytes s.start (s.start + s.len) ≡ text → IsTrue answer ↔ (Says o × HasBriefBlocks spelled)) messages tells in
        let there = ap (λ (p : Span). slice_range bytes p.start (p.start + p.len)) spans ∙ stands_alone n only.span bytes only.spelled in
        (told only.spelled.messages_is.0 only.spelled.messages_is.2 there).1 (says, only.brief),
  )

  -- a packet that isn't one message alone is none
  pub not_sole : (packet : PacketFields) (spans : List Span) → Spells packet spans bytes → ((m : MessageFields) → packet ≡ alone m → ⊥) → IsSole → ⊥
  not_sole packet spans is none (n, only, says) = none n (one_packet bytes packet (alone n) spans (only.span ∷ []) is only.spelled).0
