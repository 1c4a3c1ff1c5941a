-- Packets: read, spelled and refused as their parts are.
use Rattle.mesh_packet.proofs.Common.{◌≡◌, ℕ, ◌+◌, ◌-◌, ◌/◌, ◌<◌, ◌≤◌, Bool, true, false, eqb, List, [], ◌∷◌, ◌++◌, length, map, Ok, Err, refl, sym, ap, subst, ◌∙◌, arith, append_assoc, MatchResult, slice_range, common_steps, eqb-true, eqb-false, Refusal, ◌>>=◌, Reading, refuse, has, octet_at, meets_bind, meets_if, Takes, takes_range, Stands, stands_next, behind, octet_takes, octet_again, TlvFields, SpellsItems, ItemsFault, FirstFaultAt, items_at, SpellsTlv, SpellsTlvBlock, TlvBlockFault, TlvFault, tlv_at, block_at, IsReader, ItemsTook, items_take, items_again, items_fault, block_takes, block_again, block_refuses, tlv_reader, Span, MessageFields, PacketFields, SpellsNumber, SpellsMessage, SpellsMessages, SpellsHeaderTlvs, Spells, MessageFault, BeginsPacket, no_octet, version, number_cut, in_header_tlvs, in_message, size_if, short_if, message_at, sized_at, spans_from, messages_at, flags_at, header_tlvs_at, packet_of}
use Rattle.mesh_packet.specs.Grammar as grammar
use Rattle.mesh_packet.proofs.Fields.{Took, IsCut, number_field}
use Rattle.mesh_packet.proofs.Messages.{message_reader}
use Rattle.mesh_packet.proofs.Encodable.{all_of}

-- ---- messages beside their sizes

abbrev SpellsSized : MessageFields × ℕ → List ℕ → Type 0
SpellsSized m text = SpellsMessage m.0 text × (m.1 ≡ length text)

sized_reader : IsReader sized_at SpellsSized MessageFault
unfolding sized_at
sized_reader = record {
  takes = λ s at end lt fits. meets_bind (message_at s at end) _ (Took s at end SpellsMessage) (Took s at end SpellsSized) (FirstFaultAt MessageFault s at end) (FirstFaultAt MessageFault s at end) (message_reader.takes s at end lt fits) (λ e h. h) (λ m t. (t.0, (t.1, omega (arith, t.2.len)), t.2));
  again = λ s at end x bytes rest le fits h e. again s at end x bytes rest le fits h e;
  fault_again = λ s at end distance reason le fits f. rw (message_reader.fault_again s at end distance reason le fits f) refl;
  some = λ x bytes h. message_reader.some x.0 bytes h.0;
} where
  again : (s : List ℕ) (at end : ℕ) (x : MessageFields × ℕ) (bytes rest : List ℕ) → at ≤ end → end ≤ length s → SpellsSized x bytes → slice_range s at end ≡ bytes ++ rest → sized_at s at end ≡ Ok (x, at + length bytes)
  again s at end x bytes rest le fits h e =
      let size : at + length bytes - at ≡ x.1 = omega (arith, h.1) in
      rw (message_reader.again s at end x.0 bytes rest le fits h.0 e, size) refl

-- messages beside their sizes, as messages with their spans
with_spans : (at : ℕ) (xs : List (MessageFields × ℕ)) (text : List ℕ) → SpellsItems SpellsSized xs text → SpellsMessages at (map (λ m. m.0) xs) (spans_from at (map (λ m. m.1) xs)) text
with_spans at [] text h = h
with_spans at (x ∷ xs) text h = grind (arith, common_steps, (with_spans (at + x.1) xs h.1 h.3))

-- the way back
record Sized (at : ℕ) (ms : List MessageFields) (ss : List Span) (text : List ℕ) : Type 0 where
  items : List (MessageFields × ℕ)
  spelled : SpellsItems SpellsSized items text
  messages : map (λ m. m.0) items ≡ ms
  spans : spans_from at (map (λ m. m.1) items) ≡ ss

sized : (at : ℕ) (ms : List MessageFields) (ss : List Span) (text : List ℕ) → SpellsMessages at ms ss text → Sized at ms ss text
sized at [] [] text h = record { items = []; spelled = h; messages = refl; spans = refl }
sized at (m ∷ ms) (s ∷ ss) text h =
    let r = sized (at + length h.0) ms ss h.1 h.4 in
    record {
      items = (m, length h.0) ∷ r.items;
      spelled = (h.0, h.1, (h.2, refl), r.spelled, h.5);
      messages = ap (λ (l : List MessageFields). m ∷ l) r.messages;
      spans = ap (λ (l : List Span). record { start = at; len = length h.0 } ∷ l) r.spans ∙ ap (λ (x : Span). x ∷ ss) (sym h.3);
    }
sized at [] (s ∷ ss) text h = absurd h
sized at (m ∷ ms) [] text h = absurd h

-- messages without their sizes, of which a later one has a fault
fault_sized : (text : List ℕ) (place reason : ℕ) → ItemsFault SpellsMessage MessageFault text place reason → ItemsFault SpellsSized MessageFault text place reason
fault_sized text place reason f =
    let b = beside f.before f.front f.spelled in
    record { before = b.0; front = f.front; rest = f.rest; inside = f.inside; spelled = b.1; fault = f.fault; some = f.some; whole = f.whole; distance_is = f.distance_is } where
      beside : (ms : List MessageFields) (text : List ℕ) → SpellsItems SpellsMessage ms text → (xs : List (MessageFields × ℕ)) × SpellsItems SpellsSized xs text
      beside [] text h = ([], h)
      beside (m ∷ ms) text h = let r = beside ms h.1 h.3 in ((m, length h.0) ∷ r.0, (h.0, h.1, (h.2, refl), r.1, h.4))

fault_unsized : (text : List ℕ) (place reason : ℕ) → ItemsFault SpellsSized MessageFault text place reason → ItemsFault SpellsMessage MessageFault text place reason
fault_unsized text place reason f =
    record { before = map (λ (m : MessageFields × ℕ). m.0) f.before; front = f.front; rest = f.rest; inside = f.inside; spelled = alone f.before f.front f.spelled; fault = f.fault; some = f.some; whole = f.whole; distance_is = f.distance_is } where
      alone : (xs : List (MessageFields × ℕ)) (text : List ℕ) → SpellsItems SpellsSized xs text → SpellsItems SpellsMessage (map (λ m. m.0) xs) text
      alone [] text h = h
      alone (x ∷ xs) text h = (h.0, h.1, h.2.0, alone xs h.1 h.3, h.4)

-- ---- what is read is spelled so, and what is refused has its first fault there

abbrev pub IsFault : List ℕ → Refusal → Type 0
IsFault s e = grammar.FirstFault s e.place e.reason

abbrev pub IsSpelled : List ℕ → PacketFields × List Span → Type 0
IsSpelled s v = Spells v.0 v.1 s

abbrev FlagsTook : List ℕ → ℕ × ℕ → Type 0
FlagsTook s x = (x.0 < 16) × Takes s 0 (x.0 ∷ []) x.1 (length s)

flags_take : (s : List ℕ) → MatchResult (flags_at s (length s)) (FlagsTook s) (IsFault s)
unfolding flags_at
flags_take s =
    let all = all_of s in
    meets_bind (octet_at 1 s 0 (length s)) _ (λ x. Takes s 0 (x.0 ∷ []) x.1 (length s)) (FlagsTook s) (λ e. (e ≡ record { place = 0; reason = 1 }) × (slice_range s 0 (length s) ≡ [])) (IsFault s) (octet_takes 1 s 0 (length s) (omega arith))
    (λ e h. subst (λ (r : Refusal). grammar.FirstFault s r.place r.reason) (sym h.0) (no_octet (sym all ∙ h.1)))
    (λ x t. meets_if (eqb (x.0 / 16) 0) _ _ (FlagsTook s) (IsFault s)
    (λ q. let z : x.0 / 16 ≡ 0 = eqb-true _ _ q in (omega (arith, z), t))
    (λ q. let z : x.0 / 16 ≡ 0 → ⊥ = eqb-false _ _ q in version x.0 (slice_range s x.1 (length s)) (sym all ∙ t.parts) (omega (arith, z))))

abbrev HeaderTook : List ℕ → ℕ → Bool → List TlvFields × ℕ → Type 0
HeaderTook s at set x = (at ≤ x.1) × (x.1 ≤ length s) × SpellsHeaderTlvs set x.0 (slice_range s at x.1)

header_takes : (set : Bool) (s : List ℕ) (at : ℕ) → at ≤ length s → MatchResult (header_tlvs_at set s at (length s)) (HeaderTook s at set) (λ e. (set ≡ true) × FirstFaultAt TlvBlockFault s at (length s) e)
unfolding header_tlvs_at
header_takes true s at le = weaker (block_at tlv_at s at (length s)) (block_takes tlv_at SpellsTlv (TlvFault 100 1) tlv_reader s at (length s) le (omega arith)) where
  weaker : (r : Reading (List TlvFields)) → MatchResult r (λ x. (at ≤ x.1) × (x.1 ≤ length s) × SpellsTlvBlock x.0 (slice_range s at x.1)) (FirstFaultAt TlvBlockFault s at (length s)) → MatchResult r (HeaderTook s at true) (λ e. (true ≡ true) × FirstFaultAt TlvBlockFault s at (length s) e)
  weaker (Ok x) h = h
  weaker (Err e) h = (refl, h)
header_takes false s at le = grind (arith, common_steps)

pub packet_takes : (s : List ℕ) → MatchResult (packet_of s) (IsSpelled s) (IsFault s)
unfolding packet_of messages_at
packet_takes s =
    let P = IsSpelled s in
    let Q = IsFault s in
    let end : ℕ = length s in
    let all = all_of s in
    meets_bind (flags_at s end) _ (FlagsTook s) P Q Q (flags_take s) (λ e h. h) (λ flags t0.
    let one : flags.1 ≡ 1 = omega (arith, t0.1.len) in
    let begun : s ≡ flags.0 ∷ slice_range s flags.1 end = sym all ∙ t0.1.parts in
    meets_bind (short_if (has flags.0 8) s flags.1 end) _ (Took s flags.1 end (SpellsNumber (has flags.0 8))) P (IsCut s flags.1 end (size_if (has flags.0 8) 2)) Q ((number_field (has flags.0 8)).takes s flags.1 end t0.1.within (omega arith))
    (λ e h. let place : Refusal = record { place = flags.1; reason = 1 } in
    subst (λ (r : Refusal). grammar.FirstFault s r.place r.reason) (sym h.0) (subst (λ (n : ℕ). grammar.FirstFault s n 1) (sym one) (cut flags.0 (has flags.0 8) (slice_range s flags.1 end) refl begun t0.0 h.1)))
    (λ number t1.
    let begins : BeginsPacket s flags.0 t1.0 (slice_range s number.1 end) = record { version = t0.0; number = number.0; number_is = t1.1; parts = begun ∙ ap (λ (l : List ℕ). flags.0 ∷ l) t1.2.parts } in
    meets_bind (header_tlvs_at (has flags.0 4) s number.1 end) _ (HeaderTook s number.1 (has flags.0 4)) P (λ e. (has flags.0 4 ≡ true) × FirstFaultAt TlvBlockFault s number.1 end e) Q (header_takes (has flags.0 4) s number.1 t1.2.within)
    (λ e h. subst (λ (n : ℕ). grammar.FirstFault s n e.reason) (omega (arith, h.1.1, t1.2.len, one)) (in_header_tlvs flags.0 t1.0 (slice_range s number.1 end) h.1.0 e.reason begins h.0 h.1.2))
    (λ tlvs t2.
    let text : List ℕ = slice_range s number.1 tlvs.1 in
    let rest : List ℕ = slice_range s tlvs.1 end in
    let stop : number.1 + (tlvs.1 - number.1) ≡ tlvs.1 = omega (arith, t2.0) in
    let taken : Takes s number.1 text tlvs.1 end = subst (λ (k : ℕ). Takes s number.1 (slice_range s number.1 k) k end) stop (takes_range s number.1 (tlvs.1 - number.1) end (omega (arith, stop, t2.1)) (omega arith)) in
    let begun2 : BeginsPacket s flags.0 t1.0 (text ++ rest) = subst (λ (l : List ℕ). BeginsPacket s flags.0 t1.0 l) taken.parts begins in
    let spot : tlvs.1 ≡ 1 + length t1.0 + length text = omega (arith, one, t1.2.len, taken.len) in
    meets_bind (items_at (sized_at s) (end - tlvs.1) tlvs.1 end >>= λ x. Ok ((map (λ m. m.0) x.0, spans_from tlvs.1 (map (λ m. m.1) x.0)), x.1)) _ (λ (x : (List MessageFields × List Span) × ℕ). SpellsMessages tlvs.1 x.0.0 x.0.1 rest) P Q Q
    (meets_bind (items_at (sized_at s) (end - tlvs.1) tlvs.1 end) _ (ItemsTook s tlvs.1 end SpellsSized) (λ (x : (List MessageFields × List Span) × ℕ). SpellsMessages tlvs.1 x.0.0 x.0.1 rest) (FirstFaultAt (ItemsFault SpellsSized MessageFault) s tlvs.1 end) Q (items_take sized_at SpellsSized MessageFault sized_reader (end - tlvs.1) s tlvs.1 end t2.1 (omega arith) (omega arith))
    (λ e h. subst (λ (n : ℕ). grammar.FirstFault s n e.reason) (omega (arith, h.1, spot)) (in_message flags.0 tlvs.0 t1.0 text rest h.0 e.reason begun2 t2.2 (fault_unsized rest h.0 e.reason h.2)))
    (λ x u. with_spans tlvs.1 x.0 rest u.1))
    (λ e h. h)
    (λ x u. record {
      flags = flags.0;
      sequence = t1.0;
      tlvs = text;
      messages = rest;
      version = t0.0;
      sequence_is = t1.1;
      tlvs_is = t2.2;
      messages_is = subst (λ (n : ℕ). SpellsMessages n x.0.0 x.0.1 rest) spot u;
      whole = begun2.parts;
    })))) where
      cut : (flags : ℕ) (set : Bool) (rest : List ℕ) → has flags 8 ≡ set → s ≡ flags ∷ rest → flags < 16 → length rest < size_if set 2 → grammar.FirstFault s 1 1
      cut flags true rest is e lt short = number_cut flags rest e lt is short
      cut flags false rest is e lt short = absurd (omega arith)

-- ---- what is spelled so is read, and a first fault is the one that is answered

small : (flags : ℕ) → flags < 16 → eqb (flags / 16) 0 ≡ true
small flags lt = let z : flags / 16 ≡ 0 = omega arith in rw z refl

flags_again : (s : List ℕ) (flags : ℕ) (rest : List ℕ) → s ≡ flags ∷ rest → flags < 16 → flags_at s (length s) ≡ Ok (flags, 1)
unfolding flags_at
flags_again s flags rest e lt = grind (arith, common_steps, octet_again, all_of, small)

header_again : (set : Bool) (s : List ℕ) (at : ℕ) (tlvs : List TlvFields) (text rest : List ℕ) → Stands s at text rest (length s) → SpellsHeaderTlvs set tlvs text → header_tlvs_at set s at (length s) ≡ Ok (tlvs, at + length text)
unfolding header_tlvs_at
header_again true s at tlvs text rest stands h = block_again tlv_at SpellsTlv (TlvFault 100 1) tlv_reader s at (length s) tlvs text rest stands.at_end stands.fits h stands.parts
header_again false s at tlvs text rest stands h = let z : at ≡ at + length text = omega (arith, ap length h.1) in rw (h.0) (ap (λ (k : ℕ). Ok ([], k)) z)

-- what stands behind the octet with the flags, up to the end
pub first_stands : (s : List ℕ) (flags : ℕ) (sequence rest : List ℕ) → s ≡ flags ∷ (sequence ++ rest) → Stands s 1 sequence rest (length s)
first_stands s flags sequence rest e = grind (arith, common_steps, all_of, stands_next)

pub packet_again : (s : List ℕ) (p : PacketFields) (spans : List Span) → Spells p spans s → packet_of s ≡ Ok (p, spans)
unfolding packet_of messages_at
packet_again s p spans h =
    let end : ℕ = length s in
    let s1 = first_stands s h.flags h.sequence (h.tlvs ++ h.messages) h.whole in
    let both : Stands s 1 (h.sequence ++ h.tlvs) h.messages end = record { parts = s1.parts ∙ sym (append_assoc h.sequence h.tlvs h.messages); at_end = s1.at_end; fits = s1.fits } in
    let s2 = stands_next s 1 h.sequence h.tlvs h.messages end both in
    let spot : ℕ = 1 + length h.sequence + length h.tlvs in
    let last = behind s (1 + length h.sequence) h.tlvs h.messages end s2 in
    let r = sized spot p.messages spans h.messages h.messages_is in
    rw (
      flags_again s h.flags (h.sequence ++ (h.tlvs ++ h.messages)) h.whole h.version,
      (number_field (has h.flags 8)).again s 1 p.sequence h.sequence (h.tlvs ++ h.messages) end s1 h.sequence_is,
      header_again (has h.flags 4) s (1 + length h.sequence) p.tlvs h.tlvs h.messages s2 h.tlvs_is,
      items_again sized_at SpellsSized MessageFault sized_reader (end - spot) s spot end r.items (omega (arith, last.1)) (omega arith) (omega arith) (subst (λ (l : List ℕ). SpellsItems SpellsSized r.items l) (sym last.0) r.spelled),
      r.messages,
      r.spans,
    ) refl

pub packet_fault : (s : List ℕ) (place reason : ℕ) → grammar.FirstFault s place reason → packet_of s ≡ refuse place reason
unfolding packet_of flags_at header_tlvs_at messages_at
packet_fault s place reason (no_octet e) = rw e refl
packet_fault s place reason (version flags rest e le) = grind (arith, common_steps, octet_again, all_of)
packet_fault s place reason (number_cut flags rest e lt is cut) =
    let stands = first_stands s flags [] rest e in
    let short : length (slice_range s 1 (length s)) < size_if (has flags 8) 2 = subst (λ (b : Bool). length (slice_range s 1 (length s)) < size_if b 2) (sym is) (subst (λ (l : List ℕ). length l < 2) (sym stands.parts) cut) in
    rw (flags_again s flags rest e lt, (number_field (has flags 8)).cut s 1 (length s) (omega arith) short) refl
packet_fault s place reason (in_header_tlvs flags sequence rest inside why begins is f) =
    let stands = first_stands s flags sequence rest begins.parts in
    let next = behind s 1 sequence rest (length s) stands in
    rw (
      flags_again s flags (sequence ++ rest) begins.parts begins.version,
      (number_field (has flags 8)).again s 1 begins.number sequence rest (length s) stands begins.number_is,
      is,
      block_refuses tlv_at SpellsTlv (TlvFault 100 1) tlv_reader s (1 + length sequence) (length s) (record { place = 1 + length sequence + inside; reason = why }) (omega (arith, next.1)) (omega arith) (inside, refl, subst (λ (l : List ℕ). TlvBlockFault l inside why) (sym next.0) f),
    ) refl
packet_fault s place reason (in_message flags tlvs sequence text rest inside why begins spelled f) =
    let end : ℕ = length s in
    let s1 = first_stands s flags sequence (text ++ rest) begins.parts in
    let both : Stands s 1 (sequence ++ text) rest end = record { parts = s1.parts ∙ sym (append_assoc sequence text rest); at_end = s1.at_end; fits = s1.fits } in
    let s2 = stands_next s 1 sequence text rest end both in
    let spot : ℕ = 1 + length sequence + length text in
    let last = behind s (1 + length sequence) text rest end s2 in
    rw (
      flags_again s flags (sequence ++ (text ++ rest)) begins.parts begins.version,
      (number_field (has flags 8)).again s 1 begins.number sequence (text ++ rest) end s1 begins.number_is,
      header_again (has flags 4) s (1 + length sequence) tlvs text rest s2 spelled,
      items_fault sized_at SpellsSized MessageFault sized_reader (end - spot) s spot end inside why (omega (arith, last.1)) (omega arith) (omega arith) (subst (λ (l : List ℕ). ItemsFault SpellsSized MessageFault l inside why) (sym last.0) (fault_sized rest inside why f)),
    ) refl
