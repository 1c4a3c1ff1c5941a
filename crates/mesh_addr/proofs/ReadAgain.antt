-- What is spelled is read, whatever follows.
use Rattle.mesh_addr.proofs.Common.{◌≡◌, ℕ, zero, suc, ◌+◌, ◌-◌, ◌*◌, ◌<◌, ◌≤◌, Bool, true, false, List, [], ◌∷◌, ◌++◌, length, Option, Some, None, Result, Ok, refl, sym, ap, subst, ◌∙◌, arith, length-append, slice_range, replicate, ◌&&◌, common_steps, le-ltb, ne_eqb, suc-mul, Refusal, ◌>>=◌, has, Stands, stands_first, stands_next, octet_again, front_is, piece_again, RawAddr, padded, SpellsHead, SpellsTail, SpellsMids, SpellsPrefixes, AreAll, AreAtMost, prefixes, SpellsBlock, ShapeFields, addr_of, count_at, flags_at, number_at, counted_at, head_at, tail_at, parts_end, prefix_at, common_at, addrs_at, block_at}
use Rattle.mesh_atoms.proofs.Lists.{heads_equal, tails_equal}

abbrev done : {A : Type 0} → A → Result A Refusal
done x = Ok x

pub count_again : (s : List ℕ) (at n : ℕ) (rest : List ℕ) (end : ℕ) → Stands s at (n ∷ []) rest end → 0 < n → count_at s at end ≡ Ok (n, at + 1)
unfolding count_at
count_again s at n rest end h some = rw (octet_again 1 s at end n rest h.fits h.parts, ne_eqb n 0 (λ z. absurd (omega (arith, z, some)))) refl

pub flags_again : (s : List ℕ) (at flags : ℕ) (rest : List ℕ) (end : ℕ) → Stands s at (flags ∷ []) rest end → has flags 64 && has flags 32 ≡ false → has flags 16 && has flags 8 ≡ false → flags_at s at end ≡ Ok (flags, at + 1)
unfolding flags_at
flags_again s at flags rest end h apart apart' = rw (octet_again 1 s at end flags rest h.fits h.parts, apart, apart') refl

pub number_again : (s : List ℕ) (at n room : ℕ) (rest : List ℕ) (end : ℕ) → Stands s at (n ∷ []) rest end → n ≤ room → number_at s at end room ≡ Ok (n, at + 1)
unfolding number_at
number_again s at n room rest end h le = rw (octet_again 1 s at end n rest h.fits h.parts, le-ltb room n le) refl

counted_again : (s : List ℕ) (at room : ℕ) (piece rest : List ℕ) (end : ℕ) → Stands s at (length piece ∷ piece) rest end → length piece ≤ room → counted_at s at end room ≡ Ok (piece, at + suc (length piece))
unfolding counted_at
counted_again s at room piece rest end h le =
    let e : at + 1 + length piece ≡ at + suc (length piece) = omega arith in
    rw (number_again s at (length piece) room (piece ++ rest) end (stands_first s at (length piece ∷ []) piece rest end h) le, piece_again 1 s (at + 1) piece rest end (stands_next s at (length piece ∷ []) piece rest end h), e) refl

nothing_read : (at : ℕ) → done {A = List ℕ × ℕ} ([], at) ≡ Ok ([], at + 0)
nothing_read at = let e : at ≡ at + 0 = omega arith in ap (λ (n : ℕ). done {A = List ℕ × ℕ} ([], n)) e

pub head_again : (s : List ℕ) (flags at width : ℕ) (head text rest : List ℕ) (end : ℕ) (b : Bool) → has flags 128 ≡ b → SpellsHead b head text → length head ≤ width → Stands s at text rest end → head_at s flags at end width ≡ Ok (head, at + length text)
unfolding head_at
head_again s flags at width head text rest end b is h le stands = grind (arith, common_steps, counted_again, nothing_read)

pub tail_again : (s : List ℕ) (flags at room : ℕ) (tail text rest : List ℕ) (end : ℕ) (full zeros : Bool) → has flags 64 ≡ full → has flags 32 ≡ zeros → SpellsTail full zeros tail text → length tail ≤ room → Stands s at text rest end → tail_at s flags at end room ≡ Ok (tail, at + length text)
unfolding tail_at
tail_again s flags at room tail text rest end true false is is' h le stands = rw (is, h) (counted_again s at room tail rest end (subst (λ (l : List ℕ). Stands s at l rest end) h stands) le)
tail_again s flags at room tail text rest end false true is is' h le stands =
    let one = number_again s at (length tail) room rest end (subst (λ (l : List ℕ). Stands s at l rest end) h.1 stands) le in
    rw (is, is', one, h.1) (ap (λ (l : List ℕ). done {A = List ℕ × ℕ} (l, at + 1)) (sym h.0))
tail_again s flags at room tail text rest end false false is is' h le stands = rw (is, is', h.0, h.1) (nothing_read at)
tail_again s flags at room tail text rest end true true is is' h le stands = absurd h

tails_apart : (full zeros : Bool) (tail text : List ℕ) → SpellsTail full zeros tail text → full && zeros ≡ false
tails_apart full zeros tail text h = grind (arith, common_steps)

prefixes_apart : (one each : Bool) (most : ℕ) (ps text : List ℕ) → SpellsPrefixes one each most ps text → one && each ≡ false
prefixes_apart one each most ps text h = grind (arith, common_steps)

pub parts_again : (n at end size : ℕ) → at + n * size ≤ end → parts_end n at end size ≡ Ok (at + n * size)
unfolding parts_end
parts_again zero at end size le = let e : at ≡ at + 0 * size = omega arith in ap (λ (m : ℕ). done m) e
parts_again (suc n) at end size le = grind (arith, common_steps, suc-mul, le-ltb, parts_again n (at + size) end size (omega arith))

pub prefix_again : (s : List ℕ) (at p width : ℕ) (rest : List ℕ) (end : ℕ) → Stands s at (p ∷ []) rest end → p ≤ 8 * width → prefix_at s at end width ≡ Ok (p, at + 1)
unfolding prefix_at
prefix_again s at p width rest end h le = rw (octet_again 1 s at end p rest h.fits h.parts, le-ltb (8 * width) p le) refl

pub first_all : (p q : ℕ) (qs : List ℕ) → AreAll p (q ∷ qs) → (q ≡ p) × AreAll p qs
first_all p q qs h = (heads_equal q p qs (replicate (length qs) p) h, tails_equal q p qs (replicate (length qs) p) h)

module _ (s : List ℕ) (end width : ℕ) (head tail : List ℕ) where
  abbrev shape : Option ℕ → ShapeFields
  shape o = record { width = width; head = head; tail = tail; prefix = o }

  abbrev size : ℕ
  size = width - (length head + length tail)

  -- the address of the next middle part
  next_addr : (a : RawAddr) (mid_at : ℕ) (mid more rest : List ℕ) → length mid ≡ size → a.octets ≡ padded (head ++ (mid ++ tail)) → Stands s mid_at (mid ++ more) rest end → addr_of (shape None) (slice_range s mid_at (mid_at + size)) a.prefix ≡ a
  next_addr a mid_at mid more rest long is stands = grind (arith, common_steps, front_is, stands_first)

  common_again : (p : ℕ) (addrs : List RawAddr) (mid_at at : ℕ) (mids rest : List ℕ) → SpellsMids head tail size addrs mids → AreAll p (prefixes addrs) → Stands s mid_at mids rest end → addrs_at (length addrs) s (shape (Some p)) mid_at at end ≡ Ok (addrs, at)
  unfolding addrs_at
  common_again p [] mid_at at mids rest h same stands = refl
  common_again p (a ∷ addrs) mid_at at mids rest h same stands =
      let all = first_all p a.prefix (prefixes addrs) same in
      let whole : Stands s mid_at (h.0 ++ h.1) rest end = subst (λ (l : List ℕ). Stands s mid_at l rest end) h.5 stands in
      let next : Stands s (mid_at + size) h.1 rest end = subst (λ (n : ℕ). Stands s (mid_at + n) h.1 rest end) h.2 (stands_next s mid_at h.0 h.1 rest end whole) in
      rw (common_again p addrs (mid_at + size) at h.1 rest h.4 all.1 next, ← all.0, next_addr a mid_at h.0 h.1 rest h.2 h.3 whole) refl

  each_again : (addrs : List RawAddr) (mid_at at : ℕ) (mids rest others : List ℕ) → SpellsMids head tail size addrs mids → AreAtMost (8 * width) (prefixes addrs) → Stands s mid_at mids rest end → Stands s at (prefixes addrs) others end → addrs_at (length addrs) s (shape None) mid_at at end ≡ Ok (addrs, at + length (prefixes addrs))
  unfolding addrs_at
  each_again [] mid_at at mids rest others h fit stands stands' = let e : at ≡ at + 0 = omega arith in ap (λ (n : ℕ). done {A = List RawAddr × ℕ} ([], n)) e
  each_again (a ∷ addrs) mid_at at mids rest others h fit stands stands' =
      let whole : Stands s mid_at (h.0 ++ h.1) rest end = subst (λ (l : List ℕ). Stands s mid_at l rest end) h.5 stands in
      let next : Stands s (mid_at + size) h.1 rest end = subst (λ (n : ℕ). Stands s (mid_at + n) h.1 rest end) h.2 (stands_next s mid_at h.0 h.1 rest end whole) in
      let first = prefix_again s at a.prefix width (prefixes addrs ++ others) end (stands_first s at (a.prefix ∷ []) (prefixes addrs) others end stands') fit.0 in
      let after : at + 1 + length (prefixes addrs) ≡ at + suc (length (prefixes addrs)) = omega arith in
      rw (first, each_again addrs (mid_at + size) (at + 1) h.1 rest others h.4 fit.1 next (stands_next s at (a.prefix ∷ []) (prefixes addrs) others end stands'), next_addr a mid_at h.0 h.1 rest h.2 h.3 whole, after) refl

  -- the prefix lengths and the addresses
  prefixes_again : (flags : ℕ) (addrs : List RawAddr) (mid_at at : ℕ) (mids text rest others : List ℕ) (one each : Bool) → has flags 16 ≡ one → has flags 8 ≡ each → SpellsMids head tail size addrs mids → SpellsPrefixes one each (8 * width) (prefixes addrs) text → Stands s mid_at mids rest end → Stands s at text others end
      → (common_at s flags at end width >>= λ common. addrs_at (length addrs) s (shape common.0) mid_at common.1 end) ≡ Ok (addrs, at + length text)
  unfolding common_at
  prefixes_again flags addrs mid_at at mids text rest others false false is is' h k stands stands' = grind (arith, common_steps, common_again)
  prefixes_again flags addrs mid_at at mids text rest others true false is is' h k stands stands' =
      rw (is, prefix_again s at k.0 width others end (subst (λ (l : List ℕ). Stands s at l others end) k.3 stands') k.1, common_again k.0 addrs mid_at (at + 1) mids rest h k.2 stands, k.3) refl
  prefixes_again flags addrs mid_at at mids text rest others false true is is' h k stands stands' = grind (arith, common_steps, each_again)
  prefixes_again flags addrs mid_at at mids text rest others true true is is' h k stands stands' = absurd k

pub mids_long : (head tail : List ℕ) (part : ℕ) (addrs : List RawAddr) (text : List ℕ) → SpellsMids head tail part addrs text → length text ≡ length addrs * part
mids_long head tail part [] text h = ap length h ∙ omega arith
mids_long head tail part (a ∷ addrs) text h =
    ap length h.5 ∙ length-append h.0 h.1 ∙ omega (arith, h.2, mids_long head tail part addrs h.1 h.4, suc-mul (length addrs) part)

pub block_again : (s : List ℕ) (at width : ℕ) (addrs : List RawAddr) (text rest : List ℕ) (end : ℕ) → SpellsBlock width addrs text → Stands s at text rest end → block_at s at end width ≡ Ok (addrs, at + length text)
unfolding block_at
block_again s at width addrs text rest end h stands =
    let n : ℕ = length addrs in
    let tail_more : List ℕ = h.mids_text ++ h.prefixes_text in
    let head_more : List ℕ = h.tail_text ++ tail_more in
    let flags_more : List ℕ = h.head_text ++ head_more in
    let size : ℕ = width - (length h.head + length h.tail) in
    let s0 : Stands s at (n ∷ (h.flags ∷ flags_more)) rest end = subst (λ (l : List ℕ). Stands s at l rest end) h.whole stands in
    let s1 : Stands s (at + 1) (h.flags ∷ flags_more) rest end = stands_next s at (n ∷ []) (h.flags ∷ flags_more) rest end s0 in
    let s2 : Stands s (at + 1 + 1) flags_more rest end = stands_next s (at + 1) (h.flags ∷ []) flags_more rest end s1 in
    let at3 : ℕ = at + 1 + 1 + length h.head_text in
    let s3 : Stands s at3 head_more rest end = stands_next s (at + 1 + 1) h.head_text head_more rest end s2 in
    let at4 : ℕ = at3 + length h.tail_text in
    let s4 : Stands s at4 tail_more rest end = stands_next s at3 h.tail_text tail_more rest end s3 in
    let at5 : ℕ = at4 + length h.mids_text in
    let s5 : Stands s at5 h.prefixes_text rest end = stands_next s at4 h.mids_text h.prefixes_text rest end s4 in
    let long = mids_long h.head h.tail size addrs h.mids_text h.mids_is in
    let place : at4 + n * size ≡ at5 = omega (arith, long) in
    let after : at5 + length h.prefixes_text ≡ at + length text = omega (arith, ap length h.whole, length-append h.head_text head_more, length-append h.tail_text tail_more, length-append h.mids_text h.prefixes_text) in
    rw (
      count_again s at n (h.flags ∷ flags_more ++ rest) end (stands_first s at (n ∷ []) (h.flags ∷ flags_more) rest end s0) h.some,
      flags_again s (at + 1) h.flags (flags_more ++ rest) end (stands_first s (at + 1) (h.flags ∷ []) flags_more rest end s1) (tails_apart (has h.flags 64) (has h.flags 32) h.tail h.tail_text h.tail_is) (prefixes_apart (has h.flags 16) (has h.flags 8) (8 * width) (prefixes addrs) h.prefixes_text h.prefixes_is),
      head_again s h.flags (at + 1 + 1) width h.head h.head_text (head_more ++ rest) end (has h.flags 128) refl h.head_is (omega (arith, h.fits)) (stands_first s (at + 1 + 1) h.head_text head_more rest end s2),
      tail_again s h.flags at3 (width - length h.head) h.tail h.tail_text (tail_more ++ rest) end (has h.flags 64) (has h.flags 32) refl refl h.tail_is (omega (arith, h.fits)) (stands_first s at3 h.tail_text tail_more rest end s3),
      parts_again n at4 end size (omega (arith, place, s5.at_end)),
      place,
      prefixes_again s end width h.head h.tail h.flags addrs at4 at5 h.mids_text h.prefixes_text (h.prefixes_text ++ rest) rest (has h.flags 16) (has h.flags 8) refl refl h.mids_is h.prefixes_is (stands_first s at4 h.mids_text h.prefixes_text rest end s4) s5,
      after,
    ) refl
