-- Each message of a frame that is spelled stands at its span.
use Rattle.mesh_packet.proofs.Common.{◌≡◌, ℕ, zero, suc, ◌+◌, ◌≤◌, sym, ◌∙◌, ap, subst, arith, List, [], ◌∷◌, ◌++◌, length, Some, slice_get, append_assoc, slice_range, common_steps, text_is, Stands, stands_next, behind, Span, MessageFields, PacketFields, SpellsMessage, SpellsMessages, Spells, ArePlaced}
use Rattle.std.proofs.lemmas.Option.{slice_get_within}
use Rattle.mesh_packet.proofs.Packets.{first_stands}

placed : (s : List ℕ) (at : ℕ) (ms : List MessageFields) (ss : List Span) (bytes : List ℕ) → at ≤ length s → slice_range s at (length s) ≡ bytes → SpellsMessages at ms ss bytes → ArePlaced ms ss s
placed s at [] [] bytes fits is h = grind (arith, common_steps, slice_get_within)
placed s at (m ∷ ms) (p ∷ ps) bytes fits is h =
    let text : List ℕ = h.0 in
    let rest : List ℕ = h.1 in
    let parts = text_is s at (length s) text rest fits (omega arith) (is ∙ h.5) in
    let more = placed s (at + length text) ms ps rest parts.0 parts.2 h.4 in
    record {
      same = ap suc more.same;
      within = λ k span there. within_at k span there parts.0 more.within h.3;
      each = λ k n span here there. each_at k n span here there (subst (λ (l : List ℕ). SpellsMessage m l) (sym parts.1) h.2) more.each h.3;
    } where
      within_at : (k : ℕ) (span : Span) → slice_get (p ∷ ps) k ≡ Some span → at + length h.0 ≤ length s → ((j : ℕ) (q : Span) → slice_get ps j ≡ Some q → q.start + q.len ≤ length s) → p ≡ record { start = at; len = length h.0 } → span.start + span.len ≤ length s
      within_at zero span there le more stood =
          let e : p ≡ span = cc in
          subst (λ (q : Span). q.start + q.len ≤ length s) (sym stood ∙ e) le
      within_at (suc k) span there le more stood = more k span there

      each_at : (k : ℕ) (n : MessageFields) (span : Span) → slice_get (m ∷ ms) k ≡ Some n → slice_get (p ∷ ps) k ≡ Some span → SpellsMessage m (slice_range s at (at + length h.0)) → ((j : ℕ) (o : MessageFields) (q : Span) → slice_get ms j ≡ Some o → slice_get ps j ≡ Some q → SpellsMessage o (slice_range s q.start (q.start + q.len))) → p ≡ record { start = at; len = length h.0 } → SpellsMessage n (slice_range s span.start (span.start + span.len))
      each_at zero n span here there spelled more stood =
          let e : p ≡ span = cc in
          let f : m ≡ n = cc in
          subst (λ (q : Span). SpellsMessage n (slice_range s q.start (q.start + q.len))) (sym stood ∙ e) (subst (λ (o : MessageFields). SpellsMessage o (slice_range s at (at + length h.0))) f spelled)
      each_at (suc k) n span here there spelled more stood = more k n span here there
placed s at [] (p ∷ ps) bytes fits is h = absurd h
placed s at (m ∷ ms) [] bytes fits is h = absurd h

pub spells_placed : (p : PacketFields) (spans : List Span) (s : List ℕ) → Spells p spans s → ArePlaced p.messages spans s
spells_placed p spans s h =
    let end : ℕ = length s in
    let s1 = first_stands s h.flags h.sequence (h.tlvs ++ h.messages) h.whole in
    let both : Stands s 1 (h.sequence ++ h.tlvs) h.messages end = record { parts = s1.parts ∙ sym (append_assoc h.sequence h.tlvs h.messages); at_end = s1.at_end; fits = s1.fits } in
    let s2 = stands_next s 1 h.sequence h.tlvs h.messages end both in
    let last = behind s (1 + length h.sequence) h.tlvs h.messages end s2 in
    placed s (1 + length h.sequence + length h.tlvs) p.messages spans h.messages (omega (arith, last.1)) last.0 h.messages_is
