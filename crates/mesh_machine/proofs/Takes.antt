-- Messages one after the other, and where they stand.
use Rattle.mesh_machine.proofs.Common.{◌≡◌, ℕ, ◌+◌, ◌≤◌, zero, suc, arith, List, [], ◌∷◌, ◌++◌, length, Some, refl, sym, ap, subst, ◌∙◌, slice_get, slice_range, append_assoc, append-nil, none-some, length-append, MessageFields, PacketFields, Addr4, RouterSettings, Bases, Span, Spells, SpellsMessage, SpellsMessages, Arrival, Fate, Frame, octets_at, TakesMessage, TakesMessages, No_messages, First_message, AreSpelled, middle_range}

-- ---- one message more

pub takes_snoc : {settings : RouterSettings} {own : Addr4} {arrival : Arrival} {bytes : List ℕ} {old mid new : Bases} {messages : List MessageFields} {spans : List Span} {sent more : List Frame} {fates : List Fate}
    {message : MessageFields} (span : Span) {fate : Fate} →
    TakesMessages settings own arrival bytes old messages spans mid sent fates → TakesMessage settings own arrival mid message (octets_at bytes span) new more fate →
    TakesMessages settings own arrival bytes old (messages ++ message ∷ []) (spans ++ span ∷ []) new (sent ++ more) (fates ++ fate ∷ [])
takes_snoc {settings} {own} {arrival} {bytes} {old} {new = new} {more = more} {message = message} span {fate = fate} No_messages last =
    subst (λ (s : List Frame). TakesMessages settings own arrival bytes old (message ∷ []) (span ∷ []) new s (fate ∷ [])) (append-nil more) (First_message last No_messages)
takes_snoc {settings} {own} {arrival} {bytes} {old} {new = new} {more = more} {message = message} span {fate = fate} (First_message {message = first} {messages = messages} {span = place} {spans = spans} {sent = sent} {more = rest} {fate = its} {fates = fates} one others) last =
    subst (λ (s : List Frame). TakesMessages settings own arrival bytes old (first ∷ (messages ++ message ∷ [])) (place ∷ (spans ++ span ∷ [])) new s (its ∷ (fates ++ fate ∷ []))) (sym (append_assoc sent rest more)) (First_message one (takes_snoc span others last))

-- ---- where messages stand

each_cons : (bytes : List ℕ) (message : MessageFields) (span : Span) (messages : List MessageFields) (spans : List Span) → (span.start + span.len ≤ length bytes) × SpellsMessage message (octets_at bytes span) →
    AreSpelled bytes messages spans → AreSpelled bytes (message ∷ messages) (span ∷ spans)
each_cons bytes message span messages spans here others = record {
  count = let h = others.count in omega (arith, h);
  each = each;
}
  where
    each : (i : ℕ) (m : MessageFields) (s : Span) → slice_get (message ∷ messages) i ≡ Some m → slice_get (span ∷ spans) i ≡ Some s → (s.start + s.len ≤ length bytes) × SpellsMessage m (octets_at bytes s)
    each zero m s is at =
        let one : message ≡ m = cc in
        let two : span ≡ s = cc in
        subst (λ (t : Span). (t.start + t.len ≤ length bytes) × SpellsMessage m (octets_at bytes t)) two (subst (λ (n : MessageFields). (span.start + span.len ≤ length bytes) × SpellsMessage n (octets_at bytes span)) one here)
    each (suc i) m s is at = others.each i m s is at

each_spelled : (front : List ℕ) (messages : List MessageFields) (spans : List Span) (bytes : List ℕ) → SpellsMessages (length front) messages spans bytes → AreSpelled (front ++ bytes) messages spans
each_spelled front [] [] bytes is = record { count = refl; each = λ i m s at. absurd (none-some m at) }
each_spelled front [] (s ∷ spans) bytes is = absurd is
each_spelled front (m ∷ messages) [] bytes is = absurd is
each_spelled front (m ∷ messages) (s ∷ spans) bytes is =
    let (text, rest, spells, stands, others, parts) = is in
    let front_length : length (front ++ text) ≡ length front + length text = length-append front text in
    let tail : AreSpelled ((front ++ text) ++ rest) messages spans = each_spelled (front ++ text) messages spans rest (subst (λ (n : ℕ). SpellsMessages n messages spans rest) (sym front_length) others) in
    let whole : (front ++ text) ++ rest ≡ front ++ bytes = append_assoc front text rest ∙ ap (λ (b : List ℕ). front ++ b) (sym parts) in
    let there : (length front + length text ≤ length (front ++ bytes)) × SpellsMessage m (octets_at (front ++ bytes) (record { start = length front; len = length text })) = (
      let h = length-append front bytes in let k = ap (λ (b : List ℕ). length b) parts in let l = length-append text rest in omega (arith, h, k, l),
      subst (λ (b : List ℕ). SpellsMessage m (slice_range (front ++ b) (length front) (length front + length text))) (sym parts) (subst (λ (t : List ℕ). SpellsMessage m t) (sym (middle_range front text rest)) spells),
    ) in
    each_cons (front ++ bytes) m s messages spans
    (subst (λ (t : Span). (t.start + t.len ≤ length (front ++ bytes)) × SpellsMessage m (octets_at (front ++ bytes) t)) (sym stands) there)
    (subst (λ (b : List ℕ). AreSpelled b messages spans) whole tail)

-- the messages of a frame that spells a packet are spelled at their places
pub packet_spelled : (bytes : List ℕ) (packet : PacketFields) (spans : List Span) → Spells packet spans bytes → AreSpelled bytes packet.messages spans
packet_spelled bytes packet spans is =
    let front : List ℕ = is.flags ∷ (is.sequence ++ is.tlvs) in
    let size : length front ≡ 1 + length is.sequence + length is.tlvs = let h = length-append is.sequence is.tlvs in omega (arith, h) in
    let whole : front ++ is.messages ≡ bytes = ap (λ (b : List ℕ). is.flags ∷ b) (append_assoc is.sequence is.tlvs is.messages) ∙ sym is.whole in
    subst (λ (b : List ℕ). AreSpelled b packet.messages spans) whole
    (each_spelled front packet.messages spans is.messages (subst (λ (n : ℕ). SpellsMessages n packet.messages spans is.messages) (sym size) is.messages_is))
