-- Where the TLVs of a message begin, and where its address blocks.
use Rattle.mesh_wire.proofs.Common.{common_steps, ◌≡◌, ℕ, ◌+◌, ◌*◌, Bool, List, ◌∷◌, ◌++◌, length, drop, Option, sym, ap, subst, ◌∙◌, arith, length-append, append_assoc, drop-append_seam, RawAddr, MessageFields, SpellsOctet, SpellsNumber, SpellsOriginator, SpellsMessage, TlvFields, SpellsTlvBlock, heads_equal, tails_equal}
use Rattle.mesh_wire.specs.Sizes.{size_if, size_before}

octet_size : (set : Bool) (x : Option ℕ) (text : List ℕ) → SpellsOctet set x text → length text ≡ size_if 1 x
octet_size set x text e = grind (arith, common_steps)

number_size : (set : Bool) (x : Option ℕ) (text : List ℕ) → SpellsNumber set x text → length text ≡ size_if 2 x
number_size set x text h3 = grind (arith, common_steps)

originator_size : (set : Bool) (width : ℕ) (x : Option RawAddr) (text : List ℕ) → SpellsOriginator set width x text → length text ≡ size_if width x
originator_size set width x text h = grind (arith, common_steps)

-- a message is so many octets, its TLVs, and its address blocks
pub head_before : (m : MessageFields) (text : List ℕ) (is : SpellsMessage m text) → (front : List ℕ) × (length front ≡ size_before m) × (text ≡ front ++ (is.body_is.tlvs ++ is.body_is.blocks))
head_before m text is =
    let body = is.body_is in
    let h = body.head_is in
    let (high, low, number, size) = is.size_is in
    let front : List ℕ = m.kind ∷ (is.flags ∷ (is.size ++ body.head)) in
    let whole : text ≡ front ++ (body.tlvs ++ body.blocks) =
    is.whole ∙ ap (λ (l : List ℕ). m.kind ∷ (is.flags ∷ (is.size ++ l))) body.whole ∙ ap (λ (l : List ℕ). m.kind ∷ (is.flags ∷ l)) (sym (append_assoc is.size body.head (body.tlvs ++ body.blocks))) in
    let o = subst (λ (w : ℕ). length h.originator_text ≡ size_if w m.originator) (sym body.width_is) (originator_size _ _ m.originator h.originator_text h.originator_is) in
    let l = octet_size _ m.limit h.limit_text h.limit_is in
    let c = octet_size _ m.count h.count_text h.count_is in
    let s = number_size _ m.sequence h.sequence_text h.sequence_is in
    let parts = ap length h.whole in
    let p = length-append h.originator_text (h.limit_text ++ (h.count_text ++ h.sequence_text)) in
    let q = length-append h.limit_text (h.count_text ++ h.sequence_text) in
    let r = length-append h.count_text h.sequence_text in
    let t = ap length size in
    let u = length-append is.size body.head in
    (front, omega (arith, o, l, c, s, parts, p, q, r, t, u), whole)

pub behind_head : (m : MessageFields) (text : List ℕ) (is : SpellsMessage m text) → drop (size_before m) text ≡ is.body_is.tlvs ++ is.body_is.blocks
behind_head m text is =
    let (front, long, whole) = head_before m text is in
    ap (λ (n : ℕ). drop n text) (sym long) ∙ ap (drop (length front)) whole ∙ drop-append_seam front (is.body_is.tlvs ++ is.body_is.blocks)

-- behind a TLV block whose length is these two octets
pub behind_tlvs : (tlvs : List TlvFields) (text blocks rest : List ℕ) (high low : ℕ) → SpellsTlvBlock tlvs text → text ++ blocks ≡ high ∷ low ∷ rest → blocks ≡ drop (256 * high + low) rest
behind_tlvs tlvs text blocks rest high low h6 same = grind (arith, common_steps, heads_equal, tails_equal)
