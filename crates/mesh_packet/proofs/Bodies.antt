-- What stands in a message behind its size: read, spelled and refused as its parts are.
use Rattle.mesh_packet.proofs.Common.{◌≡◌, ℕ, ◌+◌, ◌-◌, ◌≤◌, List, [], ◌++◌, length, Ok, refl, sym, ap, subst, ◌∙◌, arith, append_assoc, MatchResult, slice_range, append-nil, Refusal, Reading, refuse, meets_bind, Takes, takes_range, Stands, stands_first, stands_next, behind, SpellsItems, ItemsFault, FirstFaultAt, items_at, SpellsTlv, TlvBlockFault, TlvFault, tlv_at, block_at, items_take, items_again, items_fault, block_takes, block_again, block_refuses, tlv_reader, MessageFields, SpellsPair, SpellsBody, PairFault, BodyFault, in_head, in_tlvs, in_blocks, width_of, head_size, head_at, pair_at, body_at}
use Rattle.mesh_packet.proofs.Fields.{Took}
use Rattle.mesh_packet.proofs.Heads.{SpellsOpening, IsHeadCut, head_takes, head_again, head_long}
use Rattle.mesh_packet.proofs.HeadCuts.{head_cut_again, head_some}
use Rattle.mesh_packet.proofs.Pairs.{pair_reader}

-- a body that was read up to the end
abbrev pub BodyTook : ℕ → ℕ → List ℕ → ℕ → ℕ → MessageFields × ℕ → Type 0
BodyTook kind flags s at end x = (x.1 ≡ end) × SpellsBody flags x.0 (slice_range s at end) × (x.0.kind ≡ kind)

pub body_takes : (kind flags : ℕ) (s : List ℕ) (at end : ℕ) → at ≤ end → end ≤ length s → MatchResult (body_at kind flags s at end) (BodyTook kind flags s at end) (FirstFaultAt (BodyFault flags) s at end)
unfolding body_at
body_takes kind flags s at end le fits =
    let P = BodyTook kind flags s at end in
    let Q = FirstFaultAt (BodyFault flags) s at end in
    let width : ℕ = width_of flags in
    meets_bind (head_at flags s at end) _ (Took s at end (SpellsOpening flags)) P (IsHeadCut flags s at end) Q (head_takes flags s at end le fits)
    (λ e h. (h.0, ap (λ (r : Refusal). r.place) h.1, subst (λ (n : ℕ). BodyFault flags (slice_range s at end) h.0 n) (sym (ap (λ (r : Refusal). r.reason) h.1)) (in_head h.0 h.2)))
    (λ head t1.
    let size : length t1.0 ≡ head_size flags = head_long flags head.0.originator head.0.limit head.0.count head.0.sequence t1.0 t1.1 in
    meets_bind (block_at tlv_at s head.1 end) _ _ P _ Q (block_takes tlv_at SpellsTlv (TlvFault 100 1) tlv_reader s head.1 end t1.2.within fits)
    (λ e h. (length t1.0 + h.0, omega (arith, h.1, t1.2.len), in_tlvs t1.0 (slice_range s head.1 end) h.0 e.reason size t1.2.parts h.2))
    (λ tlvs t2.
    let text : List ℕ = slice_range s head.1 tlvs.1 in
    let stop : head.1 + (tlvs.1 - head.1) ≡ tlvs.1 = omega (arith, t2.0) in
    let taken : Takes s head.1 text tlvs.1 end = subst (λ (k : ℕ). Takes s head.1 (slice_range s head.1 k) k end) stop (takes_range s head.1 (tlvs.1 - head.1) end (omega (arith, stop, t2.1)) fits) in
    let parts : slice_range s at end ≡ t1.0 ++ (text ++ slice_range s tlvs.1 end) = t1.2.parts ∙ ap (λ (l : List ℕ). t1.0 ++ l) taken.parts in
    meets_bind (items_at (pair_at width s) (end - tlvs.1) tlvs.1 end) _ _ P _ Q (items_take (pair_at width) (SpellsPair width) (PairFault width) (pair_reader width) (end - tlvs.1) s tlvs.1 end t2.1 fits (omega arith))
    (λ e h. (length t1.0 + length text + h.0, omega (arith, h.1, taken.len, t1.2.len), in_blocks tlvs.0 t1.0 text (slice_range s tlvs.1 end) h.0 e.reason size t2.2 parts h.2))
    (λ blocks t3. (t3.0, record { head = t1.0; tlvs = text; blocks = slice_range s tlvs.1 end; width_is = refl; head_is = t1.1; tlvs_is = t2.2; blocks_is = t3.1; whole = parts }, refl))))

pub body_again : (kind flags : ℕ) (s : List ℕ) (at end : ℕ) (m : MessageFields) → at ≤ end → end ≤ length s → m.kind ≡ kind → SpellsBody flags m (slice_range s at end) → body_at kind flags s at end ≡ Ok (m, end)
unfolding body_at
body_again kind flags s at end m le fits is h =
    let width : ℕ = width_of flags in
    let all : Stands s at (h.head ++ (h.tlvs ++ h.blocks)) [] end = record { parts = h.whole ∙ sym (append-nil (h.head ++ (h.tlvs ++ h.blocks))); at_end = le; fits = fits } in
    let s1 = stands_next s at h.head (h.tlvs ++ h.blocks) [] end all in
    let s2 = stands_next s (at + length h.head) h.tlvs h.blocks [] end s1 in
    let place : ℕ = at + length h.head + length h.tlvs in
    let blocks : slice_range s place end ≡ h.blocks = s2.parts ∙ append-nil h.blocks in
    rw (
      head_again flags s at m.originator m.limit m.count m.sequence h.head ((h.tlvs ++ h.blocks) ++ []) end (stands_first s at h.head (h.tlvs ++ h.blocks) [] end all) h.head_is,
      block_again tlv_at SpellsTlv (TlvFault 100 1) tlv_reader s (at + length h.head) end m.tlvs h.tlvs (h.blocks ++ []) s1.at_end fits h.tlvs_is (stands_first s (at + length h.head) h.tlvs h.blocks [] end s1).parts,
      items_again (pair_at width) (SpellsPair width) (PairFault width) (pair_reader width) (end - place) s place end m.blocks s2.at_end fits (omega arith) (subst (λ (l : List ℕ). SpellsItems (SpellsPair width) m.blocks l) (sym blocks) h.blocks_is),
    ) (both kind width m is h.width_is end) where
      both : (kind width : ℕ) (m : MessageFields) → m.kind ≡ kind → m.width ≡ width → (end : ℕ) → ◌≡◌ {A = Reading MessageFields} (Ok (record { kind = kind; width = width; originator = m.originator; limit = m.limit; count = m.count; sequence = m.sequence; tlvs = m.tlvs; blocks = m.blocks }, end)) (Ok (m, end))
      both kind width m k w end =
          ap (λ (n : ℕ). Ok (record { kind = n; width = width; originator = m.originator; limit = m.limit; count = m.count; sequence = m.sequence; tlvs = m.tlvs; blocks = m.blocks }, end)) (sym k)
          ∙ ap (λ (n : ℕ). Ok (record { kind = m.kind; width = n; originator = m.originator; limit = m.limit; count = m.count; sequence = m.sequence; tlvs = m.tlvs; blocks = m.blocks }, end)) (sym w)

pub body_fault : (kind flags : ℕ) (s : List ℕ) (at end distance reason : ℕ) → at ≤ end → end ≤ length s → BodyFault flags (slice_range s at end) distance reason → body_at kind flags s at end ≡ refuse (at + distance) reason
unfolding body_at
body_fault kind flags s at end distance reason le fits (in_head place cut) = rw (head_cut_again flags s at end place le fits cut) refl
body_fault kind flags s at end distance reason le fits (in_tlvs head rest place why size e f) =
    let h = head_some flags head size in
    let stands : Stands s at head rest end = record { parts = e; at_end = le; fits = fits } in
    let next = behind s at head rest end stands in
    let sum : at + length head + place ≡ at + (length head + place) = omega arith in
    rw (
      head_again flags s at h.0 h.1 h.2 h.3 head rest end stands h.4,
      block_refuses tlv_at SpellsTlv (TlvFault 100 1) tlv_reader s (at + length head) end (record { place = at + length head + place; reason = why }) (omega (arith, next.1)) fits (place, refl, subst (λ (l : List ℕ). TlvBlockFault l place why) (sym next.0) f),
    ) (ap (λ (k : ℕ). refuse {A = MessageFields × ℕ} k why) sum)
body_fault kind flags s at end distance reason le fits (in_blocks tlvs head text rest place why size spelled e f) =
    let width : ℕ = width_of flags in
    let h = head_some flags head size in
    let all : Stands s at (head ++ text) rest end = record { parts = e ∙ sym (append_assoc head text rest); at_end = le; fits = fits } in
    let s1 = stands_next s at head text rest end all in
    let next = behind s (at + length head) text rest end s1 in
    let spot : ℕ = at + length head + length text in
    let sum : spot + place ≡ at + (length head + length text + place) = omega arith in
    rw (
      head_again flags s at h.0 h.1 h.2 h.3 head (text ++ rest) end (stands_first s at head text rest end all) h.4,
      block_again tlv_at SpellsTlv (TlvFault 100 1) tlv_reader s (at + length head) end tlvs text rest s1.at_end fits spelled s1.parts,
      items_fault (pair_at width) (SpellsPair width) (PairFault width) (pair_reader width) (end - spot) s spot end place why (omega (arith, next.1)) fits (omega arith) (subst (λ (l : List ℕ). ItemsFault (SpellsPair width) (PairFault width) l place why) (sym next.0) f),
    ) (ap (λ (k : ℕ). refuse {A = MessageFields × ℕ} k why) sum)
