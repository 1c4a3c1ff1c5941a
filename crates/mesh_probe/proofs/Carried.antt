-- Frames that carry one message alone.
use Rattle.mesh_probe.proofs.Common.{◌≡◌, ℕ, suc, ◌+◌, ◌-◌, ◌≤◌, ◌<◌, refl, sym, ◌∙◌, ap, subst, arith, lit≤, List, [], ◌∷◌, ◌++◌, length, Some, slice_range, append_assoc, append-nil, length-append, Span, MessageFields, PacketFields, Spells, SpellsMessage, SpellsMessages, FirstFault, HasHop, one_hop_on, hopped, alone, octets_at, middle_range, some_equal}
use Rattle.mesh_machine.proofs.packet.Packets.{packet_again, packet_fault}
use Rattle.mesh_wire.proofs.Hops.{can_hop, hop_spells}

-- the message after so many hops
abbrev pub at_hop : MessageFields → ℕ → ℕ → MessageFields
at_hop message limit hops = record message { limit = Some (limit - hops); count = Some hops }

-- the octets spell a packet of that message alone
pub record Carries (m : MessageFields) (bytes : List ℕ) : Type 0 where
  pub packet : PacketFields
  pub spans : List Span
  pub spelled : Spells packet spans bytes
  pub one : packet.messages ≡ m ∷ []

one_span : (m : MessageFields) (spans : List Span) (front bytes : List ℕ) → SpellsMessages (length front) (m ∷ []) spans bytes →
    (span : Span) × (spans ≡ span ∷ []) × SpellsMessage m (octets_at (front ++ bytes) span)
one_span m [] front bytes is = absurd is
one_span m (s ∷ []) front bytes is =
    let (text, rest, spells, stands, others, parts) = is in
    let there : SpellsMessage m (slice_range (front ++ bytes) (length front) (length front + length text)) =
    subst (λ (b : List ℕ). SpellsMessage m (slice_range (front ++ b) (length front) (length front + length text))) (sym parts)
    (subst (λ (t : List ℕ). SpellsMessage m t) (sym (middle_range front text rest)) spells) in
    (s, refl, subst (λ (t : Span). SpellsMessage m (octets_at (front ++ bytes) t)) (sym stands) there)
one_span m (s ∷ t ∷ spans) front bytes is = absurd is.4

pub spanned : (m : MessageFields) (bytes : List ℕ) → (c : Carries m bytes) → (span : Span) × (c.spans ≡ span ∷ []) × SpellsMessage m (octets_at bytes span)
spanned m bytes c =
    let is = c.spelled in
    let front : List ℕ = is.flags ∷ (is.sequence ++ is.tlvs) in
    let size : length front ≡ 1 + length is.sequence + length is.tlvs = (let h = length-append is.sequence is.tlvs in omega (arith, h)) in
    let whole : front ++ is.messages ≡ bytes = ap (λ (b : List ℕ). is.flags ∷ b) (append_assoc is.sequence is.tlvs is.messages) ∙ sym is.whole in
    let messages : SpellsMessages (length front) (m ∷ []) c.spans is.messages =
    subst (λ (ms : List MessageFields). SpellsMessages (length front) ms c.spans is.messages) c.one
    (subst (λ (n : ℕ). SpellsMessages n c.packet.messages c.spans is.messages) (sym size) is.messages_is) in
    let (span, e, spells) = one_span m c.spans front is.messages messages in
    (span, e, subst (λ (b : List ℕ). SpellsMessage m (octets_at b span)) whole spells)

pub no_fault : {A : Type 0} (m : MessageFields) (bytes : List ℕ) (place reason : ℕ) → Carries m bytes → FirstFault bytes place reason → A
no_fault m bytes place reason c fault =
    let e = packet_again bytes c.packet c.spans c.spelled in
    let f = packet_fault bytes place reason fault in
    absurd (cc)

-- the octets of a message behind an octet of no flags
pub behind_zero : (m : MessageFields) (text : List ℕ) → SpellsMessage m text → Carries m (0 ∷ text)
behind_zero m text spells = record {
  packet = alone m;
  spans = record { start = 1; len = length text } ∷ [];
  spelled = record {
    flags = 0;
    sequence = [];
    tlvs = [];
    messages = text;
    version = lit≤ tt;
    sequence_is = refl;
    tlvs_is = (refl, refl);
    messages_is = (text, [], spells, refl, refl, sym (append-nil text));
    whole = refl;
  };
  one = refl;
}

-- a message that is forwarded is carried one hop further
pub carried_on : (m : MessageFields) (limit hops : ℕ) (text : List ℕ) → limit < 256 → hops + 2 ≤ limit → SpellsMessage (at_hop m limit hops) text →
    Carries (at_hop m limit (suc hops)) (0 ∷ hopped text)
carried_on m limit hops text octet room spells =
    let here : MessageFields = at_hop m limit hops in
    let hop : HasHop here = record {
      limit = limit - hops;
      limit_is = refl;
      above = omega (arith, room);
      count = λ count is. (let e : hops ≡ count = some_equal hops count is in omega (arith, e, room, octet));
    } in
    let next : SpellsMessage (one_hop_on here) (hopped text) = hop_spells here text spells (can_hop here text spells hop).flagged in
    let e : (limit - hops) - 1 ≡ limit - suc hops = omega arith in
    let f : hops + 1 ≡ suc hops = omega arith in
    let same : one_hop_on here ≡ at_hop m limit (suc hops) =
    ap (λ (n : ℕ). let r : MessageFields = record m { limit = Some n; count = Some (hops + 1) } in r) e
    ∙ ap (λ (n : ℕ). let r : MessageFields = record m { limit = Some (limit - suc hops); count = Some n } in r) f in
    behind_zero (at_hop m limit (suc hops)) (hopped text) (subst (λ (x : MessageFields). SpellsMessage x (hopped text)) same next)
