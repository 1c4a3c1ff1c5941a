-- One address block with its TLV block after the other, each address block in the fewest octets.
use Rattle.mesh_trace.proofs.Common.{◌≡◌, ℕ, ◌+◌, ◌<◌, ◌≤◌, List, ◌∷◌, ◌++◌, length, Option, Some, None, refl, sym, ap, subst, ◌∙◌, arith, slice_range, IfSome, IsNone, drop, ◌↔◌, length-append, append_assoc, next_is, text_is, SpellsItems, BlockFields, MessageFields, SpellsPair, SpellsMessage, SpellsBriefly, HasBriefBlocks}
use Rattle.mesh_wire.specs.Sizes.{size_before}
use Rattle.mesh_wire.proofs.Behind.{head_before}

pub given : {A : Type 0} (found : Option A) (x : A) (P : A → Type 0) → found ≡ Some x → IfSome found P → P x
given found x P e h = subst (λ (o : Option _). IfSome o P) e h

pub is_nothing : {A : Type 0} (found : Option A) → found ≡ None → IsNone found
is_nothing found e = subst (λ (o : Option _). IsNone o) (sym e) refl

module _ (frame : List ℕ) (at end width : ℕ) (b : BlockFields) (text rest : List ℕ) (p : SpellsPair width b text) (fits : end ≤ length frame) (e : slice_range frame at end ≡ text ++ rest) where
  -- what stands there is the address block, and behind it the TLV block
  pub parts : slice_range frame at end ≡ p.addrs ++ (p.tlvs ++ rest)
  parts = e ∙ ap (λ (l : List ℕ). l ++ rest) p.whole ∙ append_assoc p.addrs p.tlvs rest

  pub some_there : at < end
  some_there = (next_is frame at end _ _ fits (parts ∙ ap (λ (l : List ℕ). l ++ (p.tlvs ++ rest)) p.addrs_is.whole)).0

  pub behind_addrs : (at + length p.addrs ≤ end) × (slice_range frame (at + length p.addrs) end ≡ p.tlvs ++ rest)
  behind_addrs = let t = text_is frame at end p.addrs (p.tlvs ++ rest) (omega (arith, some_there)) fits parts in (t.0, t.2)

  pub place_behind : at + length p.addrs + length p.tlvs ≡ at + length text
  place_behind = let long = ap length p.whole in let both = length-append p.addrs p.tlvs in omega (arith, long, both)

  pub behind_pair : (at + length text ≤ end) × (slice_range frame (at + length text) end ≡ rest)
  behind_pair = let t = text_is frame at end text rest (omega (arith, some_there)) fits e in (t.0, t.2)

-- the blocks from a place on stand there, and all of them are in the fewest octets exactly where those are
pub record Left (width : ℕ) (blocks : List BlockFields) (frame : List ℕ) (start end at i : ℕ) : Type 0 where
  pub rest : SpellsItems (SpellsPair width) (drop i blocks) (slice_range frame at end)
  pub same : SpellsItems (SpellsBriefly width) (drop i blocks) (slice_range frame at end) ↔ SpellsItems (SpellsBriefly width) blocks (slice_range frame start end)

module _ (width : ℕ) (blocks : List BlockFields) (frame : List ℕ) (start end at i : ℕ) (fits : end ≤ length frame) where
  module _ (b : BlockFields) (here : drop i blocks ≡ b ∷ drop (i + 1) blocks) (is : b.width ≡ width) (left : Left width blocks frame start end at i) where
    first : SpellsItems (SpellsPair width) (b ∷ drop (i + 1) blocks) (slice_range frame at end)
    first = subst (λ (bs : List BlockFields). SpellsItems (SpellsPair width) bs (slice_range frame at end)) here left.rest

    -- the pair that stands there
    pub pair_there : (text : List ℕ) × (rest : List ℕ) × SpellsPair b.width b text × (slice_range frame at end ≡ text ++ rest)
    pair_there = (first.0, first.1, subst (λ (w : ℕ). SpellsPair w b first.0) (sym is) first.2, first.4)

    briefly : SpellsItems (SpellsBriefly width) blocks (slice_range frame start end) → SpellsItems (SpellsBriefly width) (b ∷ drop (i + 1) blocks) (slice_range frame at end)
    briefly all = subst (λ (bs : List BlockFields). SpellsItems (SpellsBriefly width) bs (slice_range frame at end)) here (left.same.1 all)

    pub left_more : (next : ℕ) → ((text rest : List ℕ) → SpellsPair b.width b text → slice_range frame at end ≡ text ++ rest → (next ≡ at + length text) × SpellsBriefly b.width b text) →
        Left width blocks frame start end next (i + 1)
    left_more next some = record {
      rest = (let behind = there first.0 first.1 first.2 first.4 in subst (SpellsItems (SpellsPair width) (drop (i + 1) blocks)) (sym behind) first.3);
      same = (
        λ h.
            let behind = there first.0 first.1 first.2 first.4 in
            let pair = (some_here first.0 first.1 first.2 first.4).1 in
            left.same.0 (subst (λ (bs : List BlockFields). SpellsItems (SpellsBriefly width) bs (slice_range frame at end)) (sym here) (first.0, first.1, pair, subst (SpellsItems (SpellsBriefly width) (drop (i + 1) blocks)) behind h, first.4)),
        λ all.
            let (text, rest, brief, others, e) = briefly all in
            subst (SpellsItems (SpellsBriefly width) (drop (i + 1) blocks)) (sym (there text rest brief.pair e)) others,
      );
    }
      where
        some_here : (text rest : List ℕ) → SpellsPair width b text → slice_range frame at end ≡ text ++ rest → (next ≡ at + length text) × SpellsBriefly width b text
        some_here = subst (λ (w : ℕ). (text rest : List ℕ) → SpellsPair w b text → slice_range frame at end ≡ text ++ rest → (next ≡ at + length text) × SpellsBriefly w b text) is some

        there : (text rest : List ℕ) → SpellsPair width b text → slice_range frame at end ≡ text ++ rest → slice_range frame next end ≡ rest
        there text rest p e = ap (λ (n : ℕ). slice_range frame n end) (some_here text rest p e).0 ∙ (behind_pair frame at end width b text rest p fits e).1

    pub left_never : ((text rest : List ℕ) → SpellsBriefly b.width b text → slice_range frame at end ≡ text ++ rest → ⊥) → SpellsItems (SpellsBriefly width) blocks (slice_range frame start end) → ⊥
    left_never none all =
        let (text, rest, brief, others, e) = briefly all in
        none text rest (subst (λ (w : ℕ). SpellsBriefly w b text) (sym is) brief) e

-- ---- the blocks of a message

module _ (m : MessageFields) (frame : List ℕ) (start end : ℕ) (text : List ℕ) (is : SpellsMessage m text) (fits : end ≤ length frame) (within : start ≤ end) (e : slice_range frame start end ≡ text) where
  -- behind the message's head stand its TLVs, and behind these its blocks
  pub tlvs_there : (start + size_before m ≤ end) × (slice_range frame (start + size_before m) end ≡ is.body_is.tlvs ++ is.body_is.blocks)
  tlvs_there =
      let (front, long, whole) = head_before m text is in
      let t = text_is frame start end front (is.body_is.tlvs ++ is.body_is.blocks) within fits (e ∙ whole) in
      (omega (arith, long, t.0), ap (λ (n : ℕ). slice_range frame (start + n) end) (sym long) ∙ t.2)

  pub blocks_there : (next : ℕ) → (next ≡ start + size_before m + length is.body_is.tlvs) → (next ≤ end) × (slice_range frame next end ≡ is.body_is.blocks)
  blocks_there next place =
      let (inside, tlvs) = tlvs_there in
      let t = text_is frame (start + size_before m) end is.body_is.tlvs is.body_is.blocks inside fits tlvs in
      (omega (arith, place, t.0), ap (λ (n : ℕ). slice_range frame n end) place ∙ t.2)

  module _ (next : ℕ) (place : next ≡ start + size_before m + length is.body_is.tlvs) where
    pub pairs_there : SpellsItems (SpellsPair m.width) m.blocks (slice_range frame next end)
    pairs_there =
        subst (SpellsItems (SpellsPair m.width) m.blocks) (sym (blocks_there next place).1)
        (subst (λ (w : ℕ). SpellsItems (SpellsPair w) m.blocks is.body_is.blocks) (sym is.body_is.width_is) is.body_is.blocks_is)

    pub brief_there : SpellsItems (SpellsBriefly m.width) m.blocks (slice_range frame next end) ↔ HasBriefBlocks is
    brief_there = (
      λ h. subst (λ (w : ℕ). SpellsItems (SpellsBriefly w) m.blocks is.body_is.blocks) is.body_is.width_is (subst (SpellsItems (SpellsBriefly m.width) m.blocks) (blocks_there next place).1 h),
      λ h. subst (SpellsItems (SpellsBriefly m.width) m.blocks) (sym (blocks_there next place).1) (subst (λ (w : ℕ). SpellsItems (SpellsBriefly w) m.blocks is.body_is.blocks) (sym is.body_is.width_is) h),
    )
